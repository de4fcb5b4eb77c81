use Rattle.std.proofs.lemmas.Result.{IfOk-weaker}
use Rattle.sqlite.specs.Files.{image_of}
use Rattle.feed_store.specs.Adopted.{IsAdoptedFile, IsOpenedAs}
use Rattle.feed_store.proofs.file.SqlKeep+FileStore+D.open_files.Goals as goal

pub returns-in-Ok-clause-opened : goal.returns-in-Ok-clause-opened
returns-in-Ok-clause-opened g c =
    IfOk-weaker c.adopt_or_drop.result (λ keep. IsAdoptedFile c.in-Ok.conn keep.0 keep.1.1) (λ keep. IsOpenedAs (image_of g.D.Disk c.args.files) keep.0 keep.1.1)
    (λ keep adopted. (c.in-Ok.conn, (λ clean. let found = c.in-Ok.ensures.found clean in record { holds = found.holds; reads = found.reads }), adopted)) c.adopt_or_drop.ensures.adopted
