-- One read of a reader.
use Rattle.std.specs.Prelude.{◌≡◌, ℕ, zero, suc, List, [], Option, IfSome, Result, Ok, Err, ⊤}
use Rattle.feed_http_heads.specs.declared.http_fault.HttpFault.{HttpFault}
use Rattle.feed_http_heads.specs.declared.http_fault.HttpFault.TheVariants.{Read, Short}

-- the count of the bytes that a read gave: none is the end of the reader, and only a failed read is `Read`
abbrev pub IsCountOf : {E : Type 0} → Result ℕ E → Result ℕ HttpFault → Type 0
IsCountOf (Ok zero) counted = counted ≡ Err Short
IsCountOf (Ok (suc more)) counted = counted ≡ Ok (suc more)
IsCountOf (Err error) counted = counted ≡ Err Read

-- the reader failed or ended
abbrev pub IsEndFault : Option (List ℕ) → HttpFault → Type 0
IsEndFault remaining Read = ⊤
IsEndFault remaining Short = IfSome remaining (λ text. text ≡ [])
IsEndFault remaining _ = ⊥
