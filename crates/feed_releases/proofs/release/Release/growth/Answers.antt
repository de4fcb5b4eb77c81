use Rattle.std.proofs.Common.{◌≡◌, ◌-◌, ℕ, List, sym, ◌∙◌, arith, rules}
use Rattle.feed_model.specs.Content.{Part, byte_in}
use Rattle.feed_model.specs.Change.{merged}
use Rattle.feed_model.specs.Parts.{Adds, AreWithin}
use Rattle.feed_model.specs.Reply.{missing_below}
use Rattle.feed_parts.specs.Piece.{total_length}
use Rattle.feed_parts.proofs.Counting.{missing_merged}
use Rattle.feed_releases.specs.FileCheck.{IsCheckOf}
use Rattle.feed_releases.proofs.ReadAhead.{if_some, running_on}
use Rattle.feed_releases.proofs.release.Release.growth.Goals as goal
use Rattle.feed_releases.proofs.release.Release.growth.Goals.{In-Ok, then-missing-gt0, else-missing-gt0+in-Ok-read_whole, else-missing-gt0+in-Err-Bad}

adds : (c : In-Ok) → Adds c.self.inside.size c.self.inside.kept.parts c.args.first c.args.bytes.now c.in-Ok.new.parts
adds c = c.in-Ok.ensures.adds c.self.inside.size c.self.invariant.within (rw (← c.self.view_is) at c.requires.inside)

-- the number of missing places after the new bytes
left_so : (size left missing count first : ℕ) (ps qs : List Part) (bytes : List ℕ) → AreWithin size ps → Adds size ps first bytes qs → missing ≡ missing_below (byte_in ps) size
    → count ≡ total_length qs → left ≡ missing - count → left ≡ missing_below (byte_in (merged ps qs)) size
left_so size left missing count first ps qs bytes within brings e f g = omega (arith, e, f, g, missing_merged size ps qs within brings.whole)

pub read_whole-requires-clause-adds : goal.read_whole-requires-clause-adds
read_whole-requires-clause-adds c = rw (← c.self.view_is) (adds (goal.at.read_whole-requires-clause-adds c).In-Ok)

pub read_whole-requires-clause-whole : goal.read_whole-requires-clause-whole
read_whole-requires-clause-whole c =
    let left = left_so c.self.inside.size c.saturating_sub-missing.result c.missing.result c.count.result c.args.first c.self.inside.kept.parts c.in-Ok.new.parts c.args.bytes.now
    c.self.invariant.within (adds (goal.at.read_whole-requires-clause-whole c).In-Ok) c.missing.ensures c.count.ensures c.saturating_sub-missing.ensures in
    let none : c.saturating_sub-missing.result ≡ 0 = omega (arith, c.if-missing-gt0.false) in
    rw (← c.self.view_is) (sym left ∙ none)

pub returns-clause-reads : goal.returns-clause-reads
returns-clause-reads c =
    let ps = c.self.inside.kept.parts in
    let qs = c.in-Ok.new.parts in
    let brings = adds (goal.at.returns-clause-reads c).In-Ok in
    let was = rw (← c.self.view_is) at c.requires.reads in
    let on = if_some c.args.running.now (IsCheckOf ps) (IsCheckOf (merged ps qs)) was (λ running. running_on (merged ps qs) ps c.args.first c.args.bytes.now running brings.union) in
    rw (← c.self.view_is) (elim c.if-missing-gt0.branch [
      | then-missing-gt0 w ↦ rw w.running-is (w.begin.ensures (merged ps qs) on)
      | else-missing-gt0+in-Ok-read_whole w ↦ rw w.running-is (search rules)
      | else-missing-gt0+in-Err-Bad w ↦ rw w.running-is (search rules)
    ])

pub returns-clause-growth : goal.returns-clause-growth
returns-clause-growth c =
    let new = rw (← c.self.view_is) at c.requires.new in
    rw (← c.self.view_is) (record {
      staged = new.2;
      some = c.in-Ok.ensures.some new.1;
      adds = adds (goal.at.returns-clause-growth c).In-Ok;
      missing = left_so c.self.inside.size c.saturating_sub-missing.result c.missing.result c.count.result c.args.first c.self.inside.kept.parts c.in-Ok.new.parts c.args.bytes.now
          c.self.invariant.within (adds (goal.at.returns-clause-growth c).In-Ok) c.missing.ensures c.count.ensures c.saturating_sub-missing.ensures;
      stands = elim c.if-missing-gt0.branch [
        | then-missing-gt0 w ↦ rw w.standing-is w.if-missing-gt0.true
        | else-missing-gt0+in-Ok-read_whole w ↦
            let none : c.saturating_sub-missing.result ≡ 0 = omega (arith, w.if-missing-gt0.false) in
            rw w.standing-is (none, rw (← c.self.view_is) at w.in-Ok-read_whole.ensures)
        | else-missing-gt0+in-Err-Bad w ↦
            let none : c.saturating_sub-missing.result ≡ 0 = omega (arith, w.if-missing-gt0.false) in
            let bad = rw w.in-Err-Bad.field-0-is at w.in-Err-Bad.ensures in
            rw w.standing-is (none, rw (← c.self.view_is) at bad)
      ];
    })
