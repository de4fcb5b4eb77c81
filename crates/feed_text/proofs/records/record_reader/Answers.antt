use Rattle.std.proofs.Common.{◌∙◌, ap, inl, inr}
use Rattle.std.specs.Prelude.{option_map}
use Rattle.feed_text.specs.Records.{drop_mark}
use Rattle.feed_text.proofs.CsvRecords.{drop_marks}
use Rattle.feed_text.proofs.records.record_reader.Goals as goal

pub returns-in-Ok-clause-ready : goal.returns-in-Ok-clause-ready
returns-in-Ok-clause-ready g c =
    let fr = c.from_reader-reader.ensures in
    let same = rw c.in-Ok.is at c.set_byte_headers.ensures.same in
    let set = rw c.in-Ok.is at c.set_byte_headers.ensures.set in
    record {
      trims = ap (λ r. r.trim) same ∙ rw (c.flexible.ensures, c.quoting.ensures, c.delimiter.ensures) at fr.trim ∙ c.new.ensures.trim;
      config = ap (λ r. r.config) same ∙ rw (c.flexible.ensures, c.quoting.ensures, c.delimiter.ensures, c.new.ensures.config) at fr.config;
      flexible = ap (λ r. r.flexible) same ∙ rw (c.flexible.ensures) at fr.flexible;
      ready = inr (inl (ap (λ r. r.has_headers) same ∙ rw (c.flexible.ensures, c.quoting.ensures, c.delimiter.ensures, c.new.ensures.has_headers) at fr.has_headers, set));
    }

pub returns-in-Ok-clause-left : goal.returns-in-Ok-clause-left
returns-in-Ok-clause-left g c text is =
    let fr = c.from_reader-reader.ensures in
    let same = rw c.in-Ok.is at c.set_byte_headers.ensures.same in (
      inl (ap (λ r. r.state) same ∙ fr.state),
      rw same (fr.source ∙ drop_marks (g.R.Read.remaining c.args.source) ∙ ap (option_map drop_mark) is),
    )
