use Rattle.std.proofs.Common.{◌≡◌, ◌∙◌, drop, refl, take, take-append-drop}
use Rattle.std.proofs.lemmas.List.{take_rest}
use Rattle.feed_kbart.proofs.Pieces.{text_held, text_read}
use Rattle.feed_kbart.proofs.list_text.ListText.hold.Goals as goal

pub returns-in_ok-extend_from_slice-in-None : goal.returns-in_ok-extend_from_slice-in-None
returns-in_ok-extend_from_slice-in-None g c text small =
    text_held g.K.KeepRows.keeps text c.args.bytes.now c.args.self.now _ c.in_ok-extend_from_slice-in-None.ensures.items refl c.in-None.ensures

pub returns-in_ok-extend_from_slice-in-Some-2 : goal.returns-in_ok-extend_from_slice-in-Some-2
returns-in_ok-extend_from_slice-in-Some-2 g c text small =
    let bytes = c.args.bytes.now in
    let place = c.in-Some.place in
    let (within, ends, none) = c.in-Some.ensures in
    let read = c.deref.ensures.value ∙ c.in_ok-extend_from_slice-in-Some.ensures.items in
    let rest : c.extend_from_slice-in-Some-2.new.self.items ≡ drop place bytes = c.in_ok-extend_from_slice-in-Some-2.ensures.items ∙ rw c.clear.ensures.items (take_rest bytes place) in
    text_read g.K.KeepRows.keeps text bytes (take place bytes) (drop place bytes) c.args.self.now _ (take-append-drop place bytes) small ends none rest
    (rw (c.in_ok-read_window-in-Some.was, read) at c.read_window.ensures)
