-- The bytes read from a connection after one request was written to it.
use Rattle.std.proofs.Common.{◌≡◌, ◌⊎◌, ℕ, List, [], Option, Some, None, Result, Err, inr, subst, ap}
use Rattle.std.specs.Prelude.{IfSome, IsSomeAnd}
use Rattle.std.specs.Io.KnownBytes.{Appends}
use Rattle.feed_http_heads.specs.declared.http_fault.HttpFault.{HttpFault}
use Rattle.feed_http_heads.specs.declared.http_fault.HttpFault.TheVariants.{Write}
use Rattle.feed_http.specs.declared.fetching.got.Method.{Method}
use Rattle.feed_http.specs.declared.fetching.got.Got.{Got}
use Rattle.feed_http.specs.Got.{IsResultOf}
use Rattle.feed_dial.specs.Responses.{Responses, Unknown, Known, IfKnown}
use Rattle.feed_fetch.specs.Servers.{IsResponded}

written : (now : Option (List ℕ)) (text : List ℕ) → Appends (Some []) now text → now ≡ Some text
written None text so = absurd so
written (Some ys) text so = ap (λ (x : List ℕ). Some x) so

read_at : (IsResponseTo : List ℕ → List ℕ → Type 0) (remaining : Option (List ℕ)) (method : Method) (text : List ℕ) (result : Result Got HttpFault)
    → IsSomeAnd remaining (IsResponseTo text) → IfSome remaining (λ left. IsResultOf method left result) → IsResponded IsResponseTo method text result
read_at IsResponseTo None method text result is read = absurd is
read_at IsResponseTo (Some reply) method text result is read = (reply, is, read)

pub asked : (replies : Responses) (before now remaining : Option (List ℕ)) (text : List ℕ) (method : Method) (result : Result Got HttpFault)
    → IfKnown replies (λ IsResponseTo. before ≡ Some []) → Appends before now text
    → ((t : List ℕ) → IfKnown replies (λ IsResponseTo. now ≡ Some t → IsSomeAnd remaining (IsResponseTo t)))
    → IfSome remaining (λ left. IsResultOf method left result)
    → IfKnown replies (λ IsResponseTo. IsResponded IsResponseTo method text result)
asked Unknown before now remaining text method result fresh appends law read = tt
asked (Known IsResponseTo) before now remaining text method result fresh appends law read =
    let start : Appends (Some []) now text = subst (λ (b : Option (List ℕ)). Appends b now text) fresh appends in
    read_at IsResponseTo remaining method text result (law text (written now text start)) read

pub refused : (replies : Responses) (text : List ℕ) (method : Method) (fault : HttpFault)
    → IfKnown replies (λ IsResponseTo. IsResponded IsResponseTo method text (Err fault))
    → IfKnown replies (λ IsResponseTo. (fault ≡ Write) ⊎ IsResponded IsResponseTo method text (Err fault))
refused Unknown text method fault so = tt
refused (Known IsResponseTo) text method fault so = inr so
