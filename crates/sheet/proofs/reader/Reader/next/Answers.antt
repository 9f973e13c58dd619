use Rattle.std.proofs.Common.{◌-◌, ◌<◌, ◌≤◌, length, Some, None, refl, inl, inr, arith, rules}
use Rattle.sheet.proofs.Records.{bad-length, bad-name, name-long, name_prints, entry_there}
use Rattle.sheet.specs.Reading.{entry_said}
use Rattle.sheet.proofs.Printing.{first_unprintable}
use Rattle.sheet.proofs.reader.Reader.next.Goals as goal
use Rattle.sheet.proofs.reader.Reader.next.Goals.{then-count-lt-FEWEST-via-then-count-lt-FEWEST, then-count-lt-FEWEST-via-else-count-lt-FEWEST+then-count-gt-MOST, then-count-lt-FEWEST-via-else-count-lt-FEWEST+else-count-gt-MOST+then-bytes-at}

pub returns-then-count-lt-FEWEST : goal.returns-then-count-lt-FEWEST
returns-then-count-lt-FEWEST c =
    let bytes = c.args.self.now.bytes.now in
    let at = c.args.self.now.at in
    let count = c.from-count.ensures in (
      (
        elim c.then-count-lt-FEWEST.branch [
          | then-count-lt-FEWEST-via-then-count-lt-FEWEST w ↦ bad-length bytes at c.if-at-bytes.false (inl (omega arith))
          | then-count-lt-FEWEST-via-else-count-lt-FEWEST+then-count-gt-MOST w ↦ bad-length bytes at c.if-at-bytes.false (inr (inl (omega arith)))
          | then-count-lt-FEWEST-via-else-count-lt-FEWEST+else-count-gt-MOST+then-bytes-at w ↦ bad-length bytes at c.if-at-bytes.false (inr (inr (omega arith)))
        ],
        refl,
      ),
      refl,
    )

pub returns-in-Some : goal.returns-in-Some
returns-in-Some c =
    ((c.in-Some.i, bad-name c.args.self.now.bytes.now c.args.self.now.at c.if-at-bytes.false c.from-count.result c.from-count.ensures (omega arith) (omega arith) (omega arith) c.in-Some.i (first_unprintable _ (Some c.in-Some.i) c.in-Some.ensures), omega arith), refl)

pub returns : goal.returns
returns c =
    let bytes = c.args.self.now.bytes.now in
    let at = c.args.self.now.at in
    let n = c.from-count.result in
    let r = c.record_at.ensures in
    let e = entry_said c.record_at.result in
    let inside = c.if-at-bytes.false in
    let few : 12 ≤ n = omega arith in
    let many : n ≤ 32 = omega arith in
    let past : n < length bytes - at = omega arith in
    let long = name-long bytes at inside n c.from-count.ensures few many past e r.name in (
      r.name_at,
      record {
        spelled = entry_there bytes at inside n c.from-count.ensures few many past e r.name r.work r.limit r.gap;
        spellable = record { work_fits = search rules; limit_fits = search rules; gap_fits = search rules; name_fits = omega arith; name_prints = name_prints bytes at inside n c.from-count.ensures few many past e r.name (first_unprintable _ None c.in_default.ensures) };
        at = omega arith;
        bytes = refl;
        grid = refl;
        lanes = refl;
      },
    )
