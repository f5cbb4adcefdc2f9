pub mod Views
pub mod PathViews
pub mod TableViews
pub mod TrackTables
pub mod Holding
pub mod Cursors
pub mod TrackViews
