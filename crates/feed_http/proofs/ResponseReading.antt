-- A response that is read from a reader, through a buffer.
use Rattle.std.proofs.Common.{◌≡◌, ◌≤◌, ◌+◌, ◌-◌, ℕ, List, [], ◌++◌, length, take, drop, Option, Some, None, IfSome, Result, Ok, Err, sym, ap, arith, ◌∙◌, append_assoc, subst}
use Rattle.std.specs.Prelude.{IsErrAnd}
use Rattle.std.specs.List.{copy_within}
use Rattle.std.specs.Io.KnownBytes.{Consumes}
use Rattle.std.proofs.KnownBytes.{Consumes-trans}
use Rattle.std.proofs.lemmas.List.{append-nil, length-drop, length-take-le, take-append-drop, take_at}
use borrow.Rule.Slice.PartMut.{put_mid}
use Rattle.feed_http_heads.proofs.BufferFilling.{take-put_mid}
use Rattle.feed_http_heads.proofs.ResponseReading.{part_is}
use Rattle.feed_http_heads.specs.declared.http_fault.HttpFault.{HttpFault}
use Rattle.feed_http.specs.declared.fetching.got.Method.{Method}
use Rattle.feed_http.specs.declared.fetching.got.Got.{Got}
use Rattle.feed_http.specs.Got.{IsResultOf}

-- a fault, whatever follows
pub failed_read : (method : Method) (old mid : Option (List ℕ)) (passed bytes : List ℕ) (fault : HttpFault) (result : Result Got HttpFault) → Consumes old mid (passed ++ bytes)
    → ((more : List ℕ) → IsResultOf method (passed ++ (bytes ++ more)) (Err fault)) → IsErrAnd result (λ e. e ≡ fault) → IfSome old (λ text. IsResultOf method text result)
failed_read method None mid passed bytes fault result taken says is = tt
failed_read method (Some text) None passed bytes fault result taken says is = absurd taken
failed_read method (Some text) (Some rest) passed bytes fault (Ok given) taken says is = absurd is
failed_read method (Some text) (Some rest) passed bytes fault (Err e) taken says is =
    subst (λ (x : HttpFault). IsResultOf method text (Err x)) (sym is)
    (subst (λ (t : List ℕ). IsResultOf method t (Err fault)) (sym (taken ∙ append_assoc passed bytes rest)) (says rest))

-- the bytes in a buffer, at the place up to which they were taken
cut : (passed bytes : List ℕ) (count : ℕ) → passed ++ bytes ≡ passed ++ take count bytes ++ drop count bytes
cut passed bytes count = ap (λ t. passed ++ t) (sym (take-append-drop count bytes)) ∙ sym (append_assoc passed (take count bytes) (drop count bytes))

-- a response that is complete
pub done_read : (method other : Method) (old mid : Option (List ℕ)) (passed bytes : List ℕ) (count : ℕ) (given : Got) → other ≡ method → Consumes old mid (passed ++ bytes)
    → ((more : List ℕ) → IsResultOf other (passed ++ take count bytes ++ more) (Ok given)) → IfSome old (λ text. IsResultOf method text (Ok given))
done_read method other None mid passed bytes count given e taken says = tt
done_read method other (Some text) None passed bytes count given e taken says = absurd taken
done_read method other (Some text) (Some rest) passed bytes count given e taken says =
    let whole : text ≡ passed ++ take count bytes ++ (drop count bytes ++ rest) =
    taken ∙ ap (λ t. t ++ rest) (cut passed bytes count) ∙ append_assoc (passed ++ take count bytes) (drop count bytes) rest in
    subst (λ (m : Method). IsResultOf m text (Ok given)) e (subst (λ (t : List ℕ). IsResultOf other t (Ok given)) (sym whole) (says (drop count bytes ++ rest)))

-- a response that the end of the stream ends
pub ended_read : (method other : Method) (old mid : Option (List ℕ)) (passed bytes : List ℕ) (count : ℕ) (result : Result Got HttpFault) → other ≡ method → Consumes old mid (passed ++ bytes)
    → IfSome mid (λ text. text ≡ []) → IsResultOf other (passed ++ take count bytes ++ drop count bytes) result → IfSome old (λ text. IsResultOf method text result)
ended_read method other None mid passed bytes count result e taken over is = tt
ended_read method other (Some text) None passed bytes count result e taken over is = absurd taken
ended_read method other (Some text) (Some rest) passed bytes count result e taken over is =
    let whole : text ≡ passed ++ take count bytes ++ drop count bytes =
    taken ∙ ap (λ t. passed ++ bytes ++ t) over ∙ append-nil (passed ++ bytes) ∙ cut passed bytes count in
    subst (λ (m : Method). IsResultOf m text result) e (subst (λ (t : List ℕ). IsResultOf other t result) (sym whole) is)

-- the bytes that are kept move to the front
moved : (buffer copied : List ℕ) (count filled : ℕ) → count ≤ filled → filled ≤ length buffer → copied ≡ copy_within buffer count filled 0
    → take (filled - count) copied ≡ drop count (take filled buffer)
moved buffer copied count filled within fits e =
    let part : List ℕ = take (filled - count) (drop count buffer) in
    let long : length part ≡ filled - count = length-take-le (filled - count) (drop count buffer) (let l = length-drop count buffer in omega (arith, l, fits)) in
    ap (take (filled - count)) e ∙ take_at part (drop (0 + (filled - count)) buffer) (filled - count) long ∙ part_is buffer count filled within

-- and what was read is behind them
pub read_behind : (old mid new : Option (List ℕ)) (passed buffer copied space : List ℕ) (count filled k n : ℕ) → count ≤ filled → filled ≤ length buffer → filled - count ≤ length copied
    → n ≤ length space → copied ≡ copy_within buffer count filled 0 → Consumes old mid (passed ++ take filled buffer) → Consumes mid new (take n space)
    → Consumes old new (passed ++ take count (take filled buffer) ++ take (filled - count + n) (put_mid (filled - count) k copied space))
read_behind old mid new passed buffer copied space count filled k n within fits room some e taken more =
    let P : List ℕ → Type 0 = Consumes old new in
    let bytes : List ℕ = take filled buffer in
    let front : take (filled - count + n) (put_mid (filled - count) k copied space) ≡ drop count bytes ++ take n space =
    take-put_mid (filled - count) k n copied space room some ∙ ap (λ t. t ++ take n space) (moved buffer copied count filled within fits e) in
    subst P (sym (ap (λ t. passed ++ take count bytes ++ t) front ∙ sym (append_assoc (passed ++ take count bytes) (drop count bytes) (take n space))
    ∙ ap (λ t. t ++ take n space) (sym (cut passed bytes count))))
    (Consumes-trans old mid new (passed ++ bytes) (take n space) taken more)
