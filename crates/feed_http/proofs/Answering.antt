-- The response that is written is the one that the request is owed.
use Rattle.std.proofs.Common.{◌≡◌, ℕ, List, length, Option, Some, None, IfSome, IfOk, OnOk, Result, Ok, Err, true, false, sym, ap, ◌∙◌, subst, inl, inr, take}
use Rattle.std.specs.Prelude.{IsErrAnd, IsOkUnless, IsSomeAnd}
use Rattle.std.specs.Option.{option_and_then, option_map, option_map_or}
use Rattle.std.specs.Io.KnownBytes.{Appends}
use Rattle.std.proofs.KnownBytes.{Appends-trans, Keeps-refl}
use Rattle.std.proofs.lemmas.List.{append-nil}
use Rattle.httparse.specs.Grammar.{RequestHead}
use Rattle.feed_names.specs.ReleaseName.{Name}
use Rattle.feed_range.specs.declared.range_ask.RangeAsk.{RangeAsk}
use Rattle.feed_http_heads.specs.declared.http_fault.HttpFault.{HttpFault}
use Rattle.feed_http_heads.specs.declared.http_fault.HttpFault.TheVariants.{Write, Memory, Shelf}
use Rattle.feed_http.specs.declared.serving.response_head.ServerHead.{ServerHead}
use Rattle.feed_http.specs.declared.serving.response_head.ServerHead.TheVariants.{Whole, NotFound, BadRequest, NotImplemented}
use Rattle.feed_http_heads.specs.declared.request.Request.{Request}
use Rattle.feed_http.specs.Shelves.{Files}
use Rattle.feed_http_heads.specs.RequestHeads.{BeginsWithHead, NeverBeginsWithHead}
use Rattle.feed_http_heads.specs.Requests.{lacks_host, is_head, HasHead}
use Rattle.feed_http.specs.Requests.{is_unsupported, ask_for, IsNamedBy}
use Rattle.feed_http.specs.Responses.{status_of, head_text}
use Rattle.feed_http.specs.ServerResponses.{ServerResponse, server_response, response_without_file, file_response, part_response, with_body, head_alone, IsFaultOf, IsOutcomeOf, IsRefusalOf, IsSending}
use Rattle.feed_http.proofs.Targets.{named_is}

-- a head that was written alone
pub written_alone : (head : ServerHead) (result : Result ℕ HttpFault) (old new : Option (List ℕ)) → IfOk result (λ status. status ≡ status_of head)
    → OnOk result (Appends old new (head_text head)) → IsOkUnless result Write → IsOutcomeOf (head_alone head) result old new
written_alone head (Ok status) old new is written other = (is, subst (Appends old new) (sym (append-nil (head_text head))) written)
written_alone head (Err fault) old new is written other = rw other tt

-- so is the one that a text gets which never begins with a head
pub rejected : (bytes fields : ℕ) (told : Option (List ℕ)) (result : Result ℕ HttpFault) (old new : Option (List ℕ)) → IfSome told (NeverBeginsWithHead bytes fields)
    → IfOk result (λ status. status ≡ status_of BadRequest) → OnOk result (Appends old new (head_text BadRequest)) → IsOkUnless result Write
    → IfSome told (λ text. ((head : RequestHead) → ¬ (BeginsWithHead bytes fields text head)) → IsRefusalOf bytes fields text result old new)
rejected bytes fields None result old new never is written other = tt
rejected bytes fields (Some text) (Ok status) old new never is written other = λ none.
    let outcome = written_alone BadRequest (Ok status) old new is written other in (never, outcome.0, outcome.1)
rejected bytes fields (Some text) (Err fault) old new never is written other = λ none. rw other tt

-- a HEAD is answered with the length of the file
pub answered_head : (told : Option Files) (request : Request) (name : Name) (size : ℕ) (result : Result ℕ HttpFault) (old new : Option (List ℕ))
    → IfSome told (λ files. IsSomeAnd (files name) (λ file. length file ≡ size)) → ((head : RequestHead) → HasHead request head → true ≡ is_head head)
    → IsOutcomeOf (head_alone (Whole size)) result old new
    → IfSome told (λ files. (head : RequestHead) → HasHead request head → IsOutcomeOf (file_response head (files name)) result old new)
answered_head None request name size result old new there is_head_asked outcome = tt
answered_head (Some files) request name size result old new there is_head_asked outcome = λ head has. at_file head (is_head_asked head has) (files name) there
  where
    at_file : (head : RequestHead) → true ≡ is_head head → (found : Option (List ℕ)) → IsSomeAnd found (λ file. length file ≡ size) → IsOutcomeOf (file_response head found) result old new
    at_file head asked None gone = absurd gone
    at_file head asked (Some file) len = rw (← asked, len) outcome

-- a file has the size that the shelf stated
pub has_size : (told : Option Files) (name : Name) (stated : Option ℕ) (size : ℕ) → IfSome told (λ files. stated ≡ option_map length (files name)) → stated ≡ Some size
    → IfSome told (λ files. IsSomeAnd (files name) (λ file. length file ≡ size))
has_size None name stated size there is = tt
has_size (Some files) name stated size there is = by (files name) (sym is ∙ there)
  where
    by : (found : Option (List ℕ)) → Some size ≡ option_map length found → IsSomeAnd found (λ file. length file ≡ size)
    by None e = cc
    by (Some file) e = cc

-- another request is answered with the part of the file that it asks for
pub answered_part : (told : Option Files) (request : Request) (name : Name) (size : ℕ) (ask : RangeAsk) (result : Result ℕ HttpFault) (old new : Option (List ℕ))
    → IfSome told (λ files. IsSomeAnd (files name) (λ file. length file ≡ size)) → ((head : RequestHead) → HasHead request head → false ≡ is_head head)
    → ((head : RequestHead) → HasHead request head → ask ≡ ask_for head size)
    → IfSome told (λ files. IfSome (files name) (λ file. IsOutcomeOf (part_response ask file) result old new))
    → IfSome told (λ files. (head : RequestHead) → HasHead request head → IsOutcomeOf (file_response head (files name)) result old new)
answered_part None request name size ask result old new there is_get asks outcome = tt
answered_part (Some files) request name size ask result old new there is_get asks outcome = λ head has. at_file head (is_get head has) (asks head has) (files name) there outcome
  where
    at_file : (head : RequestHead) → false ≡ is_head head → ask ≡ ask_for head size → (found : Option (List ℕ)) → IsSomeAnd found (λ file. length file ≡ size)
        → IfSome found (λ file. IsOutcomeOf (part_response ask file) result old new) → IsOutcomeOf (file_response head found) result old new
    at_file head got asked None gone out = absurd gone
    at_file head got asked (Some file) len out =
        let e : ask ≡ ask_for head (length file) = asked ∙ ap (λ (n : ℕ). ask_for head n) (sym len) in
        rw (← got) (subst (λ (a : RangeAsk). IsOutcomeOf (part_response a file) result old new) e out)

-- a file that is not there is not found
pub answered_missing : (told : Option Files) (request : Request) (name : Name) (size : Option ℕ) (result : Result ℕ HttpFault) (old new : Option (List ℕ))
    → IfSome told (λ files. size ≡ option_map length (files name)) → size ≡ None → IsOutcomeOf (head_alone NotFound) result old new
    → IfSome told (λ files. (head : RequestHead) → HasHead request head → IsOutcomeOf (file_response head (files name)) result old new)
answered_missing None request name size result old new there none outcome = tt
answered_missing (Some files) request name size result old new there none outcome = λ head has. at_file head (files name) (sym none ∙ there)
  where
    at_file : (head : RequestHead) (found : Option (List ℕ)) → None ≡ option_map length found → IsOutcomeOf (file_response head found) result old new
    at_file head None e = outcome
    at_file head (Some file) e = cc

-- what is responded for the release that was found is responded for the one that the target names
pub answered_named : (told : Option Files) (request : Request) (found : Option Name) (name : Name) (result : Result ℕ HttpFault) (old new : Option (List ℕ))
    → ((head : RequestHead) → HasHead request head → false ≡ lacks_host head) → ((head : RequestHead) → HasHead request head → false ≡ is_unsupported head)
    → ((head : RequestHead) → HasHead request head → IsNamedBy head.target found) → found ≡ Some name
    → IfSome told (λ files. (head : RequestHead) → HasHead request head → IsOutcomeOf (file_response head (files name)) result old new)
    → IfSome told (λ files. (head : RequestHead) → HasHead request head → (named : Option Name) → IsNamedBy head.target named → IsOutcomeOf (server_response files head named) result old new)
answered_named None request found name result old new hosted supported is some outcome = tt
answered_named (Some files) request found name result old new hosted supported is some outcome = λ head has named is_named.
    let names = rw some at (is head has) in
    rw (← hosted head has, ← supported head has, named_is head.target named name is_named names) (outcome head has)

-- a request that names a release needs its file
pub needs_file : (request : Request) (found : Option Name) (name : Name) (P : ServerResponse → Type 0)
    → ((head : RequestHead) → HasHead request head → false ≡ lacks_host head) → ((head : RequestHead) → HasHead request head → false ≡ is_unsupported head)
    → ((head : RequestHead) → HasHead request head → IsNamedBy head.target found) → found ≡ Some name
    → (head : RequestHead) → HasHead request head → (named : Option Name) → IsNamedBy head.target named → IfSome (response_without_file head named) P
needs_file request found name P hosted supported is some head has named is_named =
    let names = rw some at (is head has) in
    rw (← hosted head has, ← supported head has, named_is head.target named name is_named names) tt

-- one that names none is answered without
pub names_none : (request : Request) (found : Option Name) (result : Result ℕ HttpFault) (old new : Option (List ℕ))
    → ((head : RequestHead) → HasHead request head → false ≡ lacks_host head) → ((head : RequestHead) → HasHead request head → false ≡ is_unsupported head)
    → ((head : RequestHead) → HasHead request head → IsNamedBy head.target found) → found ≡ None → IsOutcomeOf (head_alone NotFound) result old new
    → (head : RequestHead) → HasHead request head → (named : Option Name) → IsNamedBy head.target named → IfSome (response_without_file head named) (λ reply. IsOutcomeOf reply result old new)
names_none request found result old new hosted supported is none outcome head has named is_named =
    let names = rw none at (is head has) in
    rw (← hosted head has, ← supported head has) (at_name named is_named names)
  where
    at_name : (named : Option Name) → IsNamedBy head.target named → IsNamedBy head.target None
        → IfSome (option_map_or (λ name. None) named (Some (head_alone NotFound))) (λ reply. IsOutcomeOf reply result old new)
    at_name None is_named names = outcome
    at_name (Some name) is_named names = absurd (names name is_named)

-- a request without its host is rejected, whatever the shelf has
pub unhosted : (told : Option Files) (request : Request) (result : Result ℕ HttpFault) (old new : Option (List ℕ)) → ((head : RequestHead) → HasHead request head → true ≡ lacks_host head)
    → IsOutcomeOf (head_alone BadRequest) result old new
    → IfSome told (λ files. (head : RequestHead) → HasHead request head → (named : Option Name) → IsNamedBy head.target named → IsOutcomeOf (server_response files head named) result old new)
unhosted None request result old new lacks outcome = tt
unhosted (Some files) request result old new lacks outcome = λ head has named is_named. rw (← lacks head has) outcome

pub unhosted_alone : (request : Request) (result : Result ℕ HttpFault) (old new : Option (List ℕ)) → ((head : RequestHead) → HasHead request head → true ≡ lacks_host head)
    → IsOutcomeOf (head_alone BadRequest) result old new
    → (head : RequestHead) → HasHead request head → (named : Option Name) → IsNamedBy head.target named → IfSome (response_without_file head named) (λ reply. IsOutcomeOf reply result old new)
unhosted_alone request result old new lacks outcome head has named is_named = rw (← lacks head has) outcome

-- so is one with another method, or a coded body
pub unsupported : (told : Option Files) (request : Request) (result : Result ℕ HttpFault) (old new : Option (List ℕ)) → ((head : RequestHead) → HasHead request head → false ≡ lacks_host head)
    → ((head : RequestHead) → HasHead request head → true ≡ is_unsupported head) → IsOutcomeOf (head_alone NotImplemented) result old new
    → IfSome told (λ files. (head : RequestHead) → HasHead request head → (named : Option Name) → IsNamedBy head.target named → IsOutcomeOf (server_response files head named) result old new)
unsupported None request result old new hosted other outcome = tt
unsupported (Some files) request result old new hosted other outcome = λ head has named is_named. rw (← hosted head has, ← other head has) outcome

pub unsupported_alone : (request : Request) (result : Result ℕ HttpFault) (old new : Option (List ℕ)) → ((head : RequestHead) → HasHead request head → false ≡ lacks_host head)
    → ((head : RequestHead) → HasHead request head → true ≡ is_unsupported head) → IsOutcomeOf (head_alone NotImplemented) result old new
    → (head : RequestHead) → HasHead request head → (named : Option Name) → IsNamedBy head.target named → IfSome (response_without_file head named) (λ reply. IsOutcomeOf reply result old new)
unsupported_alone request result old new hosted other outcome head has named is_named = rw (← hosted head has, ← other head has) outcome

-- one that names no release is answered by what needs no file
pub nameless : (told : Option Files) (request : Request) (found : Option Name) (result : Result ℕ HttpFault) (old new : Option (List ℕ))
    → ((head : RequestHead) → HasHead request head → false ≡ lacks_host head) → ((head : RequestHead) → HasHead request head → false ≡ is_unsupported head)
    → ((head : RequestHead) → HasHead request head → IsNamedBy head.target found) → found ≡ None → IsOutcomeOf (head_alone NotFound) result old new
    → IfSome told (λ files. (head : RequestHead) → HasHead request head → (named : Option Name) → IsNamedBy head.target named → IsOutcomeOf (server_response files head named) result old new)
nameless None request found result old new hosted supported is none outcome = tt
nameless (Some files) request found result old new hosted supported is none outcome = λ head has named is_named.
    let names = rw none at (is head has) in
    rw (← hosted head has, ← supported head has) (at_name head named is_named names)
  where
    at_name : (head : RequestHead) (named : Option Name) → IsNamedBy head.target named → IsNamedBy head.target None
        → IsOutcomeOf (file_response head (option_and_then files named)) result old new
    at_name head None is_named names = outcome
    at_name head (Some name) is_named names = absurd (names name is_named)

-- memory ran out before anything was written
pub unwritten : (reply : ServerResponse) (result : Result ℕ HttpFault) (fault : HttpFault) (known : Option (List ℕ)) → IsErrAnd result (λ e. e ≡ fault) → fault ≡ Memory
    → IsOutcomeOf reply result known known
unwritten reply (Ok status) fault known is memory = absurd is
unwritten reply (Err e) fault known is memory = rw is (rw memory (inl (Keeps-refl known)))

-- an outcome of every response is one of the response that is owed
pub of_any : (told : Option Files) (request : Request) (result : Result ℕ HttpFault) (old new : Option (List ℕ)) → ((reply : ServerResponse) → IsOutcomeOf reply result old new)
    → IfSome told (λ files. (head : RequestHead) → HasHead request head → (named : Option Name) → IsNamedBy head.target named → IsOutcomeOf (server_response files head named) result old new)
of_any None request result old new each = tt
of_any (Some files) request result old new each = λ head has named is_named. each (server_response files head named)

pub of_any_alone : (request : Request) (result : Result ℕ HttpFault) (old new : Option (List ℕ)) → ((reply : ServerResponse) → IsOutcomeOf reply result old new)
    → (head : RequestHead) → HasHead request head → (named : Option Name) → IsNamedBy head.target named → IfSome (response_without_file head named) (λ reply. IsOutcomeOf reply result old new)
of_any_alone request result old new each head has named is_named = of (response_without_file head named)
  where
    of : (reply : Option ServerResponse) → IfSome reply (λ reply. IsOutcomeOf reply result old new)
    of None = tt
    of (Some reply) = each reply

-- what holds of every file, and what follows from what holds of one, is known of the shelf's
pub at_any_file : (told : Option Files) (name : Name) (P : List ℕ → Type 0) → ((file : List ℕ) → P file) → IfSome told (λ files. IfSome (files name) P)
at_any_file None name P all = tt
at_any_file (Some files) name P all = of (files name)
  where
    of : (file : Option (List ℕ)) → IfSome file P
    of None = tt
    of (Some file) = all file

pub at_its_file : (told : Option Files) (name : Name) (P Q : List ℕ → Type 0) → IfSome told (λ files. IfSome (files name) P) → ((file : List ℕ) → P file → Q file)
    → IfSome told (λ files. IfSome (files name) Q)
at_its_file None name P Q p by = tt
at_its_file (Some files) name P Q p by = of (files name) p
  where
    of : (file : Option (List ℕ)) → IfSome file P → IfSome file Q
    of None p = tt
    of (Some file) p = by file p

-- the head was not written
pub head_unwritten : (reply : ServerResponse) (result : Result ℕ HttpFault) (fault : HttpFault) (old new : Option (List ℕ)) → IsErrAnd result (λ e. e ≡ fault) → fault ≡ Write
    → IsOutcomeOf reply result old new
head_unwritten reply (Ok status) fault old new is write = absurd is
head_unwritten reply (Err e) fault old new is write = rw is (rw write tt)

-- the body was cut short
pub body_cut : (head : ServerHead) (body : List ℕ) (result : Result ℕ HttpFault) (fault : HttpFault) (old mid new : Option (List ℕ)) → IsErrAnd result (λ e. e ≡ fault)
    → Appends old mid (head_text head) → IsSending body (Err fault) mid new → IsOutcomeOf (with_body head body) result old new
body_cut head body (Ok status) fault old mid new is written sent = absurd is
body_cut head body (Err e) fault old mid new is written sent = rw is (cut fault sent)
  where
    cut : (fault : HttpFault) → IsSending body (Err fault) mid new → IsFaultOf (with_body head body) fault old new
    cut Write sent = tt
    cut Memory sent = inr (sent.0, Appends-trans old mid new (head_text head) (take sent.0 body) written sent.1)
    cut Shelf sent = inr (sent.0, Appends-trans old mid new (head_text head) (take sent.0 body) written sent.1)
    cut _ sent = absurd sent

-- all of a response was written
pub all_sent : (head : ServerHead) (body : List ℕ) (status : ℕ) (old mid new : Option (List ℕ)) → status ≡ status_of head → Appends old mid (head_text head) → Appends mid new body
    → IsOutcomeOf (with_body head body) (Ok status) old new
all_sent head body status old mid new is written sent = (is, Appends-trans old mid new (head_text head) body written sent)
