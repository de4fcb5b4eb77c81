-- The bytes that a server in memory leaves to be read.
use Rattle.std.proofs.Common.{◌≡◌, ◌++◌, ℕ, List, [], Option, Some, Result, Ok, Err, ◌∙◌, ap, subst}
use Rattle.httparse.specs.Grammar.{RequestHead}
use Rattle.feed_names.specs.ReleaseName.{Name}
use Rattle.feed_http_heads.specs.declared.http_fault.HttpFault.{HttpFault}
use Rattle.feed_http_heads.specs.declared.http_fault.HttpFault.TheVariants.{Short}
use Rattle.feed_http_heads.specs.RequestHeads.{BeginsWithHead}
use Rattle.feed_http.specs.Requests.{IsNamedBy}
use Rattle.feed_http.specs.Shelves.{Files}
use Rattle.feed_http.specs.ServerResponses.{IsOutcomeOf, server_response, bytes_of_response}
use Rattle.feed_fetch.specs.Servers.{IsServed}

-- what a server does with a text and what it wrote of the response to it
abbrev pub HasServed : Files → List ℕ → Result ℕ HttpFault → List ℕ → List ℕ → Type 0
HasServed files text result old new =
    (head : RequestHead) → BeginsWithHead 8192 64 text head → (named : Option Name) → IsNamedBy head.target named
    → IsOutcomeOf (server_response files head named) result (Some old) (Some new)

-- a server that has answered left its response
pub IsServed-outcome : (files : Files) (text old new : List ℕ) (status : ℕ) (result : Result ℕ HttpFault) → result ≡ Ok status → old ≡ []
    → HasServed files text result old new → IsServed files text new
IsServed-outcome files text old new status result is empty outcome head named begins of =
    let done = subst (λ (r : Result ℕ HttpFault). HasServed files text r old new) is outcome head begins named of in
    done.1 ∙ ap (λ (front : List ℕ). front ++ bytes_of_response (server_response files head named)) empty

-- one that waits for the rest of a head was not given a whole one
pub IsServed-unfinished : (files : Files) (text old new : List ℕ) (result : Result ℕ HttpFault) → result ≡ Err Short
    → HasServed files text result old new → IsServed files text new
IsServed-unfinished files text old new result is outcome head named begins of =
    absurd (subst (λ (r : Result ℕ HttpFault). HasServed files text r old new) is outcome head begins named of)
