use Rattle.std.proofs.Common.{◌≡◌, subst}
use Rattle.sqlite.specs.Held.{Held, state}
use Rattle.feed_store.specs.Adopted.{IsAdopted, IsPrepared, IsRefused, is_alone}
use Rattle.feed_store.proofs.sql_keep.SqlKeep.adopt.Goals as goal

pub returns-in-Ok-clause-prepared : goal.returns-in-Ok-clause-prepared
returns-in-Ok-clause-prepared g c live =
    subst (λ (h : Held _). IsPrepared g.S.Store h c.prepare.new.conn) c.set_step_limit.ensures (c.in-Ok.ensures.prepared live)

pub returns-in-Ok-clause-adopted : goal.returns-in-Ok-clause-adopted
returns-in-Ok-clause-adopted g c =
    let is = subst (λ (h : Held _). IsAdopted (state g.S.Store h) (state g.S.Store c.prepare.new.conn) (is_alone c.in-Ok.tables)) c.set_step_limit.ensures c.in-Ok.ensures.adopted in
    rw c.is_alone.ensures (record { ours = is.ours; found = is.found; blank = is.blank; earlier = is.earlier })

pub returns-in-Err-clause-cause : goal.returns-in-Err-clause-cause
returns-in-Err-clause-cause g c is live = subst (λ (h : Held _). IsRefused (state g.S.Store h).now) c.set_step_limit.ensures (c.in-Err.ensures.cause is live)

pub returns-in-Err-clause-neither : goal.returns-in-Err-clause-neither
returns-in-Err-clause-neither g c live =
    subst (λ (h : Held _). (state g.S.Store c.prepare.new.conn).now ≡ (state g.S.Store h).now) c.set_step_limit.ensures (c.in-Err.ensures.neither live)
