use Rattle.std.proofs.Common.{◌≡◌, ◌≢◌, ◌∷◌, ◌++◌, [], ◌∙◌, sym, ap, subst, rules, All, w64, to_z, of_z, FitsSigned, ℤ, ℕ, List}
use Rattle.std.proofs.Math.Facts.{to_z-of_z}
use Rattle.feed_names.specs.ReleaseName.{text_of}
use Rattle.feed_keep.specs.declared.record.Record.{Record}
use Rattle.feed_store_model.specs.Tables.{text_in}
use Rattle.feed_store_read.proofs.GivenRows.{both_ways, piece_more}
use Rattle.feed_store_read.proofs.pieces.take_piece.Goals as goal

pub returns-clause-taken : goal.returns-clause-taken
returns-clause-taken c =
    let piece = c.in-Some.piece in
    let is = c.in-Some.ensures in
    let inv = c.in-Some.piece-is in
    let fits : FitsSigned w64 piece.id = search rules in
    let back : to_z w64 (of_z w64 piece.id) ≡ piece.id = to_z-of_z fits in
    let pushed : c.push.new.self.items ≡ c.args.ids.now.items ++ piece.id ∷ [] = c.in_ok-push.ensures.items ∙ ap (λ (n : ℤ). c.args.ids.now.items ++ n ∷ []) back in
    both_ways c.in_ok-add_part.field-0 c.in_ok-add_part.ensures.given
    (λ given rows start was. piece_more rows c.args.row.now piece.id piece.text.now _ c.args.ids.now.items c.push.new.self.items start _ _ is pushed given was)
    (λ none row. subst (λ (t : List ℕ). All {X = Record} (λ r. text_of r.name ≢ t) c.args.records.now.items) (sym (ap text_in is)) none)
