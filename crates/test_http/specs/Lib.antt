pub mod EchoHeads
