use Rattle.std.proofs.Common.{refl, ap}
use Rattle.std.specs.List.{filter_map}
use Rattle.feed_identifiers.specs.Identifier.{isbn_in, issn_in}
use Rattle.feed_openurl.proofs.Steps.{kept_next, left_next}
use Rattle.feed_openurl.proofs.sets.identifiers_among.Goals as goal
use Rattle.feed_openurl.proofs.sets.identifiers_among.Goals.{in-Issn+in_ok-push-in-Issn, in-Isbn+in_ok-push-in-Isbn}

pub loop-number-preserved : goal.loop-number-preserved
loop-number-preserved c =
    let numbers = c.args.numbers.now in
    let i = c.loop-number.number-index in
    let x = c.number-item.result in
    elim c.match-number.branch [
      | in-Issn+in_ok-push-in-Issn w ↦ record {
        issns = kept_next issn_in numbers i x c.loop-number.issns.items c.match-number.issns.items (filter_map issn_in numbers)
            w.in-Issn.issn c.loop-number-test.true c.number-item.is (ap issn_in w.in-Issn.is) (rw w.issns-is w.in_ok-push-in-Issn.ensures.items) c.loop-number.invariant.issns;
        isbns = left_next isbn_in numbers i x c.loop-number.isbns.items c.match-number.isbns.items (filter_map isbn_in numbers)
            c.loop-number-test.true c.number-item.is (ap isbn_in w.in-Issn.is) (rw w.isbns-is refl) c.loop-number.invariant.isbns;
      }
      | in-Isbn+in_ok-push-in-Isbn w ↦ record {
        issns = left_next issn_in numbers i x c.loop-number.issns.items c.match-number.issns.items (filter_map issn_in numbers)
            c.loop-number-test.true c.number-item.is (ap issn_in w.in-Isbn.is) (rw w.issns-is refl) c.loop-number.invariant.issns;
        isbns = kept_next isbn_in numbers i x c.loop-number.isbns.items c.match-number.isbns.items (filter_map isbn_in numbers)
            w.in-Isbn.isbn c.loop-number-test.true c.number-item.is (ap isbn_in w.in-Isbn.is) (rw w.isbns-is w.in_ok-push-in-Isbn.ensures.items) c.loop-number.invariant.isbns;
      }
    ]
