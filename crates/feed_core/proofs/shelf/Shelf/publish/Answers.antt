use Rattle.std.proofs.Common.{rules}
use Rattle.feed_core.proofs.Shelves.{shelf_more, published_again, republished, published_first}
use Rattle.feed_core.proofs.shelf.Shelf.publish.Goals as goal

pub returns-then-not-is_same : goal.returns-then-not-is_same
returns-then-not-is_same c w is =
    republished c.args.self.now.files.entries w c.args.name.now c.in-Some.file.now c.args.bytes.now is (c.in-Some.ensures w.shelf is)
    (λ same. (let t = c.is_same.ensures.1 same in let f = c.if-not-is_same.true in cc))

pub returns-in-Some : goal.returns-in-Some
returns-in-Some c w is = published_again c.args.self.now.files.entries w c.args.name.now c.in-Some.file.now c.args.bytes.now is (c.in-Some.ensures w.shelf is) (c.is_same.ensures.0 (search rules))

pub returns : goal.returns
returns c w is =
    let none = c.in_default.ensures w.shelf is in
    published_first c.args.self.now.files.entries c.insert.new.self.entries w c.args.name.now c.args.bytes.now
    (shelf_more c.args.self.now.files.entries c.insert.new.self.entries w.shelf c.args.name.now c.text.result c.args.bytes c.one_release_for_text.ensures c.one_text_for_release.ensures is
    c.text.ensures.name none c.in_ok-insert.ensures.updates.0) none
