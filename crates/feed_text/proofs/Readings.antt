-- The facts about a text that is read and checked.
use Rattle.std.proofs.Common.{◌≡◌, ◌<◌, ℕ, List, [], ◌++◌, Option, Some, None, IfSome, Result, ◌⊎◌, inl, inr, length, refl, sym, ap, arith, ◌∙◌, subst}
use Rattle.std.specs.Prelude.{Ok, Err, IfErr}
use Rattle.std.specs.Io.KnownBytes.{Consumes, IsAtEnd, Keeps}
use Rattle.std.proofs.Props.{props}
use Rattle.std.proofs.KnownBytes.{Consumes-trans}
use Rattle.std.proofs.lemmas.List.{append-nil, length-append}
use Rattle.feed_limits.specs.Limits.{file_limit}
use Rattle.feed_text.specs.Checks.{IsCheckResult, IsReadTo, IsTextCheckOf, IsTextFaultOf}
use Rattle.feed_text.specs.declared.fault.TextFault.{TextFault}
use Rattle.feed_text.specs.declared.fault.TextFault.TheVariants as fault
use Rattle.feed_text.specs.declared.text_check.TextCheck.{TextCheck}

Consumes-nothing : (old : Option (List ℕ)) → Consumes old old []
Consumes-nothing None = tt
Consumes-nothing (Some text) = refl

pub read_nothing : (given : Option (List ℕ)) (check : TextCheck) → IsTextCheckOf [] check → IsReadTo given given check
read_nothing given check is = record { text = []; read = Consumes-nothing given; checked = is }

pub read_more : (given now next : Option (List ℕ)) (check check2 : TextCheck) (bytes : List ℕ) → IsReadTo given now check → Consumes now next bytes
    → ((text : List ℕ) → IsTextCheckOf text check → IsTextCheckOf (text ++ bytes) check2) → IsReadTo given next check2
read_more given now next check check2 bytes r come fed =
    record { text = r.text ++ bytes; read = Consumes-trans given now next r.text bytes r.read come; checked = fed r.text r.checked }

pub read_kept : (given now next : Option (List ℕ)) (check : TextCheck) → IsReadTo given now check → Keeps now next → IsReadTo given next check
read_kept given now next check r kept = record { text = r.text; read = stays given now next r.text r.read kept; checked = r.checked }
  where
    stays : (given now next : Option (List ℕ)) (text : List ℕ) → Consumes given now text → Keeps now next → Consumes given next text
    stays None now next text come kept = tt
    stays (Some whole) None next text come kept = absurd come
    stays (Some whole) (Some rest) None text come kept = absurd kept
    stays (Some whole) (Some rest) (Some same) text come kept = come ∙ ap (λ l. text ++ l) (sym kept)

-- a text that was read to its end is the one that was checked
pub read_whole : (given now : Option (List ℕ)) (check : TextCheck) (P : List ℕ → Type 0) → IsReadTo given now check → IsAtEnd now
    → ((text : List ℕ) → IsTextCheckOf text check → P text) → IfSome given P
read_whole None now check P r end checked = tt
read_whole (Some text) None check P r end checked = absurd r.read
read_whole (Some text) (Some rest) check P r end checked =
    let same : r.text ≡ text = sym (r.read ∙ ap (λ l. r.text ++ l) end ∙ append-nil r.text) in
    subst P same (checked r.text r.checked)

-- nothing came, and nothing is left
pub at_end : (now next : Option (List ℕ)) → Consumes now next [] → IsAtEnd next → IsAtEnd now
at_end None next come end = tt
at_end (Some rest) None come end = absurd come
at_end (Some rest) (Some none) come end = come ∙ end

-- more was read than a file may have
pub read_over : (given now : Option (List ℕ)) (check : TextCheck) → IsReadTo given now check → file_limit < check.total → IfSome given (λ text. file_limit < length text)
read_over None now check r over = tt
read_over (Some text) None check r over = absurd r.read
read_over (Some text) (Some rest) check r over = omega (arith, over, r.checked.size, ap length r.read, length-append r.text rest)

-- two proofs of the same fault of a text are equal
IsTextFaultOf-prop : (text : List ℕ) (fault : TextFault) → IsProp (IsTextFaultOf text fault)
IsTextFaultOf-prop text fault.NotUtf8 = Prim.hlevel props
IsTextFaultOf-prop text fault.TwoMarks = Prim.hlevel props
IsTextFaultOf-prop text fault.TooLong = Prim.hlevel props
IsTextFaultOf-prop text fault.Memory = Prim.hlevel props
IsTextFaultOf-prop text fault.Read = Prim.hlevel props

IsCheckResult-prop : (text : List ℕ) (result : Result (Unit {0}) TextFault) → IsProp (IsCheckResult text result)
IsCheckResult-prop text (Ok done) = Prim.hlevel props
IsCheckResult-prop text (Err fault) = IsTextFaultOf-prop text fault

pub known-prop : (given : Option (List ℕ)) (result : Result (Unit {0}) TextFault) → IsProp (IfSome given (λ text. IsCheckResult text result))
known-prop None result = Prim.hlevel props
known-prop (Some text) result = IsCheckResult-prop text result

-- checking a whole text never returns `Read`
pub never_read : (result : Result (Unit {0}) TextFault) → IfErr result (λ why. (why ≡ fault.NotUtf8) ⊎ (why ≡ fault.TwoMarks)) → result ≡ Err fault.Read → ⊥
never_read (Ok done) is read = cc
never_read (Err why) is read = elim is [ inl utf8 ↦ cc | inr marks ↦ cc ]
