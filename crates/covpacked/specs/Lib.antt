pub mod ItemRefs
pub mod Words
pub mod Layout
pub mod PackedView
pub mod OpenItems
pub mod NewNames
pub mod PackedSects
pub mod ReadTexts
