pub mod LogFiles
