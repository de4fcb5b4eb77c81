use Rattle.std.proofs.Common.{refl, arith}
use Rattle.feed_releases.proofs.Dropping.{empty_len, none_left, some_left, some_len, work_here}
use Rattle.feed_releases.proofs.feed.Feed.has_work.Goals as goal

pub returns-then-not-is_empty : goal.returns-then-not-is_empty
returns-then-not-is_empty g c =
    let leftovers = c.args.self.now.leftovers in
    let some = some_left leftovers.items (omega (arith, some_len leftovers.len c.is_empty.result c.is_empty.ensures c.if-not-is_empty.true, leftovers.ok.0)) in
    (λ t. omega (arith, some), λ more. refl)

pub returns-in-Some : goal.returns-in-Some
returns-in-Some g c =
    let feed = c.args.self.now in
    let none = none_left feed.leftovers.items (omega (arith, empty_len feed.leftovers.len c.is_empty.result c.is_empty.ensures c.if-not-is_empty.false, feed.leftovers.ok.0)) in
    let reads = feed.reads c.in-Some.ahead c.in-Some.is in
    work_here feed.releases.items feed.ahead c.in-Some.ahead c.index.result.now feed.leftovers.items c.has_more.result c.in-Some.is reads.0 c.index.ensures none c.has_more.ensures
