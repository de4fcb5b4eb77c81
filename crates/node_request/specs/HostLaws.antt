-- Laws of the host that a request is for.
use Rattle.std.specs.Prelude.{◌≡◌, codes, is_some, true}
use Rattle.httparse.specs.Grammar.{RequestHead}
use Rattle.feed_http_heads.specs.Fields.{values_named}
use Rattle.node_request.specs.Hosts.{behind_scheme, host_of}

-- requests with the same target and the same Host fields are for the same host, whatever other fields they have
abbrev pub OtherFieldsDoNotCount : Type 0
OtherFieldsDoNotCount = (one other : RequestHead) → one.target ≡ other.target
    → values_named (codes "host") one.fields ≡ values_named (codes "host") other.fields → host_of one ≡ host_of other

-- if the target is a whole URI, no field counts
abbrev pub WholeTargetDecides : Type 0
WholeTargetDecides = (one other : RequestHead) → one.target ≡ other.target → is_some (behind_scheme one.target) ≡ true → host_of one ≡ host_of other
