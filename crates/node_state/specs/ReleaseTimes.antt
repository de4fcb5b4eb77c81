-- The active releases with the first seconds of their days.
use Rattle.std.specs.Prelude.{◌*◌, ℕ, ℤ, pos, unsigned_abs, int_lt, if◌then◌else◌, List}
use Rattle.node_monitoring.specs.declared.metrics_text.ReleaseTime.{ReleaseTime}
use Rattle.feed_releases.specs.Actives.{ActiveValue}

-- the first second of a day, both counted from 1970-01-01; before that day 0
abbrev pub seconds_of : ℤ → ℕ
seconds_of day = if int_lt day (pos 0) then 0 else unsigned_abs day * 86400

-- a package, and the first second of the day of its release
abbrev pub time_of : ReleaseTime → List ℕ × ℕ
time_of time = (time.package.now, time.seconds)

-- the same of an active release
abbrev pub active_time : ActiveValue → List ℕ × ℕ
active_time active = (active.name.package_name, seconds_of active.name.day)
