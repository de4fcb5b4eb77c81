pub mod EchoSays
