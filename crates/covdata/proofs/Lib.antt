pub mod Copied
pub mod Alike
pub mod GoodTexts
pub mod SectLaws
pub mod ItemStarts
