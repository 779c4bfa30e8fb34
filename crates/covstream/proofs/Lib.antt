pub mod ReadBlocks
