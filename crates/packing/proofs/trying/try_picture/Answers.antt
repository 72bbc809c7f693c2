use Rattle.std.proofs.Common.{◌≡◌, Ok, Err, ap, refl, length}
use Rattle.packing.proofs.TrialLaws.{stops-trial, done-trial, told-trial, told-as, one-file}
use Rattle.packing.proofs.trying.try_picture.Goals as goal

pub returns-in-Ok-clause-ends : goal.returns-in-Ok-clause-ends
returns-in-Ok-clause-ends g c =
    let packs = c.in-Done.ensures.ends in
    let same : c.in-Some.file.now ≡ packs.writes.file =
    one-file _ _ _ c.in-Some.ensures packs.writes.stands in
    done-trial c.args.job.now c.requires.small _ _ _ packs refl refl c.pack_picture.ensures.report
    (told-as {X = Unit {0}} _ _ _ _ 0 0 (Ok c.in-Ok.field-0) (ap length same) c.in-Ok.ensures.tells)

pub returns-in-Err-clause-ends : goal.returns-in-Err-clause-ends
returns-in-Err-clause-ends g c =
    let packs = c.in-Done.ensures.ends in
    let same : c.in-Some.file.now ≡ packs.writes.file =
    one-file _ _ _ c.in-Some.ensures packs.writes.stands in
    rw c.after_report.ensures
    (told-trial c.args.job.now c.requires.small _ _ _ packs refl refl c.pack_picture.ensures.report
    c.in-Err.stop
    (told-as {X = Unit {0}} _ _ _ _ _ _ (Err c.in-Err.stop)
    (ap length same) c.in-Err.ensures.tells))

pub returns-in_default : goal.returns-in_default
returns-in_default g c = record {
  ends = stops-trial c.args.job.now c.requires.small _ _ c.pack_picture.result c.in_default.not-Done
      c.pack_picture.ensures.ends;
  shelf = c.pack_picture.ensures.shelf;
  report = c.pack_picture.ensures.report;
}
