use Rattle.std.proofs.Common.{◌≡◌, ℕ, List}
use Rattle.feed_model.specs.Content.{Part, IsText, byte_in}
use Rattle.feed_model.specs.Change.{merged}
use Rattle.feed_model.specs.Parts.{Adds}
use Rattle.feed_model.specs.Reply.{missing_below}
use Rattle.feed_model.proofs.Keeps.{none_missing}
use Rattle.feed_parts.specs.Segments.{IsTextOf}
use Rattle.feed_releases.proofs.Judged.{judged}
use Rattle.feed_releases.proofs.release.Release.read_whole.Goals as goal

-- a reader of the whole file has its text
whole_text : (size first : ℕ) (ps qs : List Part) (bytes text : List ℕ) → Adds size ps first bytes qs → missing_below (byte_in (merged ps qs)) size ≡ 0
    → IsTextOf (merged ps qs) text → IsText size (merged ps qs) text
whole_text size first ps qs bytes text brings whole is = is size brings.whole ((none_missing (byte_in (merged ps qs)) size).0 whole)

pub returns-in-Some-finish : goal.returns-in-Some-finish
returns-in-Some-finish c =
    let size = c.self.inside.size in
    let ps = c.self.inside.kept.parts in
    let qs = c.args.new.now.parts in
    let adds = rw (← c.self.view_is) at c.requires.adds in
    let text = whole_text size c.args.first ps qs c.args.bytes.now c.reader_with-check.result adds (rw (← c.self.view_is) at c.requires.whole) c.reader_with-check.ensures.text in
    rw (← c.self.view_is) (judged size (merged ps qs) c.reader_with-check.result c.in-Some-finish.outcome text
    (c.in-Some-finish.ensures (merged ps qs) c.reader_with-check.result adds.union text))

pub returns : goal.returns
returns c =
    let size = c.self.inside.size in
    let ps = c.self.inside.kept.parts in
    let qs = c.args.new.now.parts in
    let adds = rw (← c.self.view_is) at c.requires.adds in
    let text = whole_text size c.args.first ps qs c.args.bytes.now c.reader_with-check.result adds (rw (← c.self.view_is) at c.requires.whole) c.reader_with-check.ensures.text in
    rw (← c.self.view_is) (judged size (merged ps qs) c.reader_with-check.result c.read_parts.result text c.read_parts.ensures)
