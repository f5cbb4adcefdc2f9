pub mod MixCounts
pub mod OneMoreObu
pub mod ReportText
pub mod TextLaws
