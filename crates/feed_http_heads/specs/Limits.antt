-- The limits of heads. No standard sets them: RFC 9110 (section 5.4) leaves them to each end.
use Rattle.std.specs.Prelude.{ℕ}

-- the most bytes of a request's head, of all heads of a response together, and of a trailer section
abbrev pub head_limit : ℕ
head_limit = 8192

-- the most fields of a head, and of a trailer section
abbrev pub field_limit : ℕ
field_limit = 64
