-- The limits of chunks and hosts. No standard sets them: RFC 9112 (section 7.1) leaves that of a chunk's line to each
-- end.
use Rattle.std.specs.Prelude.{ℕ}

-- the most bytes of the line of a chunk, with its CR LF
abbrev pub chunk_line_limit : ℕ
chunk_line_limit = 1024

-- the most bytes of a host
abbrev pub host_limit : ℕ
host_limit = 255
