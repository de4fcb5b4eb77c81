-- A response says whether the connection is kept.
use Rattle.std.proofs.Common.{ℕ, Bool, List, inl, inr}
use Rattle.feed_http_heads.specs.Options.{SaysWhetherItKeeps}
use Rattle.feed_http_heads.specs.Requests.{is_head}
use Rattle.httparse.specs.Grammar.{RequestHead}
use Rattle.node_request.specs.FoundRequests.{BeginsWith}
use Rattle.node_response.specs.Messages.{IsMessageFor}
use Rattle.node_response.specs.Responses.{ResponseTextValue}
use Rattle.node_response.proofs.HeadsRead.{message_says, stream_says}
use Rattle.node_resolver.specs.NodeResponses.{IsNodeMessageFor, SaysOfConnection}

pub says : (keeps alone : Bool) (response : ResponseTextValue) → IsMessageFor keeps alone response → SaysWhetherItKeeps keeps response.bytes
says = message_says

pub node_says : (bytes : List ℕ) (keeps : Bool) (head : RequestHead) (response : ResponseTextValue) → BeginsWith bytes head → IsNodeMessageFor keeps head response
    → SaysOfConnection bytes keeps response
node_says bytes keeps head response begins (inl message) = inl (message_says keeps (is_head head) response message)
node_says bytes keeps head response begins (inr stream) = inr ((head, begins, stream.1), stream_says response stream.0)
