pub mod ShortItems
pub mod ListsRead
