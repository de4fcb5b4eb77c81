-- The responses of a server over files, and the result of a request.
use Rattle.std.specs.Prelude.{◌≡◌, ◌⊎◌, ℕ, List, Option, Result, Ok, Err, ⊤}
use Rattle.httparse.specs.Grammar.{RequestHead}
use Rattle.feed_names.specs.ReleaseName.{Name}
use Rattle.feed_http_heads.specs.declared.http_fault.HttpFault.{HttpFault}
use Rattle.feed_http_heads.specs.declared.http_fault.HttpFault.TheVariants.{Write}
use Rattle.feed_http.specs.declared.fetching.got.Method.{Method}
use Rattle.feed_http.specs.declared.fetching.got.Got.{Got}
use Rattle.feed_http_heads.specs.RequestHeads.{BeginsWithHead}
use Rattle.feed_http.specs.Requests.{IsNamedBy}
use Rattle.feed_http.specs.Shelves.{Files}
use Rattle.feed_http.specs.ServerResponses.{bytes_of_response, server_response}
use Rattle.feed_http.specs.Got.{IsResultOf}
use Rattle.feed_fetch.specs.declared.stop.RequestFault.{RequestFault}
use Rattle.feed_fetch.specs.declared.stop.RequestFault.TheVariants.{Dial, Http}

-- if the text begins with the head of a request, the response is that of a server with these files
abbrev pub IsServed : Files → List ℕ → List ℕ → Type 0
IsServed files text reply =
    (head : RequestHead) (named : Option Name) → BeginsWithHead 8192 64 text head → IsNamedBy head.target named
    → reply ≡ bytes_of_response (server_response files head named)

-- each response is that of a server with these files
abbrev pub IsServer : Files → (List ℕ → List ℕ → Type 0) → Type 0
IsServer files IsResponseTo = (text reply : List ℕ) → IsResponseTo text reply → IsServed files text reply

-- some response to this text has the result
abbrev pub IsResponded : (List ℕ → List ℕ → Type 0) → Method → List ℕ → Result Got HttpFault → Type 0
IsResponded IsResponseTo method text result = (reply : List ℕ) × IsResponseTo text reply × IsResultOf method reply result

-- the result of a request with this text
abbrev pub IsReadOf : (List ℕ → List ℕ → Type 0) → Method → List ℕ → Result Got RequestFault → Type 0
IsReadOf IsResponseTo method text (Ok got) = IsResponded IsResponseTo method text (Ok got)
IsReadOf IsResponseTo method text (Err (Dial fault)) = ⊤
IsReadOf IsResponseTo method text (Err (Http fault)) = (fault ≡ Write) ⊎ IsResponded IsResponseTo method text (Err fault)
