-- The heads of the responses on a connection.
use Rattle.std.specs.Prelude.{ℕ, Bool, true, false, List, ◌++◌, codes}

-- the head of a response after which the connection persists, or does not
abbrev pub start_of : Bool → List ℕ
start_of true = codes "HTTP/1.1 200 OK\r\n\r\n"
start_of false = codes "HTTP/1.1 200 OK\r\nConnection: close\r\n\r\n"
