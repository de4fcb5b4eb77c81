use Rattle.std.proofs.Common.{◌≡◌, ℕ, List, [], ◌∙◌, length, rules}
use Rattle.std.proofs.lemmas.List.{append-nil}
use Rattle.httparse.specs.Grammar.{RequestHead}
use Rattle.feed_http_heads.specs.RequestHeads.{BeginsWithHead, NeverBeginsWithHead}
use Rattle.node_request.proofs.received.found_in.Goals as goal

-- bytes that never begin with a head, whatever follows, do not with nothing that follows
none_ever : (bytes fields : ℕ) (text : List ℕ) → NeverBeginsWithHead bytes fields text → (head : RequestHead) → ¬ (BeginsWithHead bytes fields text head)
none_ever bytes fields text never head begins =
    never [] head (record { rest = begins.rest; reads = (begins.reads.0, append-nil text ∙ begins.reads.1); short = begins.short; few = begins.few })

pub returns-in-Never : goal.returns-in-Never
returns-in-Never c =
    let all : length c.args.headers.now ≡ 64 = search rules in
    let never : NeverBeginsWithHead 8192 64 c.args.bytes.now = rw all at c.in-Never.ensures in
    none_ever 8192 64 c.args.bytes.now never
