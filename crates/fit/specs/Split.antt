-- A run of a lane seen as its row and, beside it, the last task, which is served only in slots that the row leaves.
use Rattle.std.specs.Prelude.{◌≡◌, ℕ, ◌+◌, Bool, ◌⊎◌, List, [], ◌∷◌, ◌++◌, map, length, slice_index_or, refl}
use Rattle.std.proofs.Common.{sym, ap, subst, ◌∙◌, inl, inr, arith}
use Rattle.std.specs.List.{ContainsAt, AllByRecursion}
use Rattle.std.proofs.lemmas.List.{length-map, map_push, get_or_push}
use Rattle.tasks.specs.declared.record.TaskRecord.{TaskRecord}
use Rattle.fit.specs.Lane.{Job, Standing, Lane, unreleased, MayRelease, with_job, Releases, no_more, stays, comes, after_service, serve, Reached, starts, slot}
use Rattle.fit.specs.Prefix.{length_releases, length_serve}
use Rattle.fit.specs.Service.{Waiting, idle_or_waiting, serve_idle, serve_waiting}

-- Nothing waits.
abbrev pub Idle : List Standing → Type 0
Idle ss = AllByRecursion (λ s. s.waiting ≡ []) ss

-- Some job waits.
abbrev pub Busy : List Standing → Type 0
Busy [] = ⊥
Busy (s ∷ ss) = Waiting s ⊎ ((s.waiting ≡ []) × Busy ss)

idle_or_busy : (ss : List Standing) → Idle ss ⊎ Busy ss
idle_or_busy [] = inl tt
idle_or_busy (s ∷ ss) = go (idle_or_waiting s) (idle_or_busy ss)
  where
    go : (s.waiting ≡ []) ⊎ Waiting s → Idle ss ⊎ Busy ss → Idle (s ∷ ss) ⊎ Busy (s ∷ ss)
    go (inr w) below = inr (inl w)
    go (inl e) (inl idle) = inl (e, idle)
    go (inl e) (inr busy) = inr (inr (e, busy))

-- A busy row takes the slot, and what stands below is as it was.
serve_busy : (said : Bool) (row below : List TaskRecord) (rs ss : List Standing) → length rs ≡ length row → Busy rs →
    serve said (row ++ below) (rs ++ ss) ≡ serve said row rs ++ ss
serve_busy said row below [] ss h busy = elim busy [ ]
serve_busy said [] below (s ∷ rs) ss h busy = absurd (omega arith)
serve_busy said (t ∷ row) below (s ∷ rs) ss h (inl w) =
    serve_waiting said t (row ++ below) s (rs ++ ss) w
    ∙ ap {B = List Standing} (λ (r : List Standing). r ++ ss) (sym (serve_waiting said t row s rs w))
serve_busy said (t ∷ row) below (s ∷ rs) ss h (inr b) =
    serve_idle said t (row ++ below) s (rs ++ ss) b.0
    ∙ ap {B = List Standing} (λ r. s ∷ r) (serve_busy said row below rs ss (omega arith) b.1)
    ∙ ap {B = List Standing} (λ (r : List Standing). r ++ ss) (sym (serve_idle said t row s rs b.0))

-- An idle row leaves the slot to what stands below.
serve_past : (said : Bool) (row below : List TaskRecord) (rs ss : List Standing) → length rs ≡ length row → Idle rs →
    serve said (row ++ below) (rs ++ ss) ≡ rs ++ serve said below ss
serve_past said [] below [] ss h idle = refl
serve_past said [] below (s ∷ rs) ss h idle = absurd (omega arith)
serve_past said (t ∷ row) below [] ss h idle = absurd (omega arith)
serve_past said (t ∷ row) below (s ∷ rs) ss h idle =
    serve_idle said t (row ++ below) s (rs ++ ss) idle.0
    ∙ ap {B = List Standing} (λ r. s ∷ r) (serve_past said row below rs ss (omega arith) idle.1)

-- The releases of a lane are those of its row and those below it.
record Parted (clock : ℕ) (row below : List TaskRecord) (rs ss all : List Standing) : Type 0 where
  above : List Standing
  under : List Standing
  is : all ≡ above ++ under
  row_releases : Releases clock row rs above
  below_releases : Releases clock below ss under

parted_stays : {clock : ℕ} {t : TaskRecord} {row below : List TaskRecord} {s : Standing} {rs ss all : List Standing} →
    Parted clock row below rs ss all → Parted clock (t ∷ row) below (s ∷ rs) ss (s ∷ all)
parted_stays {s = s} p =
    record {
      above = s ∷ p.above;
      under = p.under;
      is = ap {B = List Standing} (λ r. s ∷ r) p.is;
      row_releases = stays p.row_releases;
      below_releases = p.below_releases;
    }

parted_comes : {clock : ℕ} {t : TaskRecord} {row below : List TaskRecord} {s : Standing} {rs ss all : List Standing} →
    MayRelease clock t s → Parted clock row below rs ss all → Parted clock (t ∷ row) below (s ∷ rs) ss (with_job clock s ∷ all)
parted_comes {clock} {s = s} may p =
    record {
      above = with_job clock s ∷ p.above;
      under = p.under;
      is = ap {B = List Standing} (λ r. with_job clock s ∷ r) p.is;
      row_releases = comes may p.row_releases;
      below_releases = p.below_releases;
    }

part : {clock : ℕ} (row below : List TaskRecord) (rs ss : List Standing) {all : List Standing} → length rs ≡ length row →
    Releases clock (row ++ below) (rs ++ ss) all → Parted clock row below rs ss all
part [] below [] ss {all} h r = record { above = []; under = all; is = refl; row_releases = no_more; below_releases = r }
part [] below (s ∷ rs) ss h r = absurd (omega arith)
part (t ∷ row) below [] ss h r = absurd (omega arith)
part (t ∷ row) below (s ∷ rs) ss h (stays r) = parted_stays (part row below rs ss (omega arith) r)
part (t ∷ row) below (s ∷ rs) ss h (comes may r) = parted_comes may (part row below rs ss (omega arith) r)

-- A run of the lane of a row and one task: the row's standings, and the task's. It begins where nothing waits.
pub data Beside (row : List TaskRecord) (asked : TaskRecord) : ℕ → List Standing → Standing → Type 0 where
  begins : {clock : ℕ} {rs : List Standing} {a : Standing} → length rs ≡ length row → Idle rs → a.waiting ≡ [] → Beside row asked clock rs a
  row_slot : {clock : ℕ} {rs rs' : List Standing} {a a' : Standing} →
      Beside row asked clock rs a → Releases clock row rs rs' → Releases clock (asked ∷ []) (a ∷ []) (a' ∷ []) →
      Busy rs' → (said : Bool) → Beside row asked (clock + 1) (serve said row rs') a'
  asked_slot : {clock : ℕ} {rs rs' : List Standing} {a a' : Standing} →
      Beside row asked clock rs a → Releases clock row rs rs' → Releases clock (asked ∷ []) (a ∷ []) (a' ∷ []) →
      Idle rs' → (w : Waiting a') → (said : Bool) → Beside row asked (clock + 1) rs' (after_service asked said a' w.first w.rest)
  idle_slot : {clock : ℕ} {rs rs' : List Standing} {a a' : Standing} →
      Beside row asked clock rs a → Releases clock row rs rs' → Releases clock (asked ∷ []) (a ∷ []) (a' ∷ []) →
      Idle rs' → a'.waiting ≡ [] → Beside row asked (clock + 1) rs' a'

pub length_beside : {row : List TaskRecord} {asked : TaskRecord} {clock : ℕ} {rs : List Standing} {a : Standing} →
    Beside row asked clock rs a → length rs ≡ length row
length_beside (begins h idle e) = h
length_beside {row} (row_slot {rs' = rs'} b r one busy said) = length_serve said row rs' ∙ length_releases r
length_beside (asked_slot b r one idle w said) = length_releases r
length_beside (idle_slot b r one idle e) = length_releases r

-- A lane's state seen as the row's and the last task's.
pub record Seen (row : List TaskRecord) (asked : TaskRecord) (l : Lane) : Type 0 where
  pub row_standings : List Standing
  pub asked_standing : Standing
  pub is : l.standings ≡ row_standings ++ (asked_standing ∷ [])
  pub run : Beside row asked l.clock row_standings asked_standing

seen_slot : {row : List TaskRecord} {asked : TaskRecord} {clock : ℕ} {rs rs' : List Standing} {a a' : Standing} (said : Bool) →
    Beside row asked clock rs a → Releases clock row rs rs' → Releases clock (asked ∷ []) (a ∷ []) (a' ∷ []) →
    Seen row asked (record { clock = clock + 1; standings = serve said (row ++ (asked ∷ [])) (rs' ++ (a' ∷ [])) })
seen_slot {row} {asked} {clock} {rs} {rs'} {a} {a'} said b r one = go (idle_or_busy rs') (idle_or_waiting a')
  where
    go : Idle rs' ⊎ Busy rs' → (a'.waiting ≡ []) ⊎ Waiting a' →
        Seen row asked (record { clock = clock + 1; standings = serve said (row ++ (asked ∷ [])) (rs' ++ (a' ∷ [])) })
    go (inr busy) _ =
        record {
          row_standings = serve said row rs';
          asked_standing = a';
          is = serve_busy said row (asked ∷ []) rs' (a' ∷ []) (length_releases r) busy;
          run = row_slot b r one busy said;
        }
    go (inl idle) (inl e) =
        record {
          row_standings = rs';
          asked_standing = a';
          is =
              serve_past said row (asked ∷ []) rs' (a' ∷ []) (length_releases r) idle
              ∙ ap (λ (ss : List Standing). rs' ++ ss) (serve_idle said asked [] a' [] e);
          run = idle_slot b r one idle e;
        }
    go (inl idle) (inr w) =
        record {
          row_standings = rs';
          asked_standing = after_service asked said a' w.first w.rest;
          is =
              serve_past said row (asked ∷ []) rs' (a' ∷ []) (length_releases r) idle
              ∙ ap (λ (ss : List Standing). rs' ++ ss) (serve_waiting said asked [] a' [] w);
          run = asked_slot b r one idle w said;
        }

-- One task's releases leave one standing.
record OneRelease (clock : ℕ) (asked : TaskRecord) (a : Standing) (under : List Standing) : Type 0 where
  after : Standing
  is : under ≡ after ∷ []
  release : Releases clock (asked ∷ []) (a ∷ []) (after ∷ [])

one_release : {clock : ℕ} {asked : TaskRecord} {a : Standing} {under : List Standing} →
    Releases clock (asked ∷ []) (a ∷ []) under → OneRelease clock asked a under
one_release {a = a} (stays no_more) = record { after = a; is = refl; release = stays no_more }
one_release {clock} {a = a} (comes may no_more) =
    record { after = with_job clock a; is = refl; release = comes may no_more }

fresh_idle : (row : List TaskRecord) → Idle (map (λ (t : TaskRecord). unreleased) row)
fresh_idle [] = tt
fresh_idle (t ∷ row) = (refl, fresh_idle row)

-- Every state that a run of the lane reaches.
pub seen : (row : List TaskRecord) (asked : TaskRecord) {l : Lane} → Reached (row ++ (asked ∷ [])) l → Seen row asked l
seen row asked (starts clock) =
    record {
      row_standings = map (λ (t : TaskRecord). unreleased) row;
      asked_standing = unreleased;
      is = map_push (λ (t : TaskRecord). unreleased) row asked;
      run = begins (length-map row (λ (t : TaskRecord). unreleased)) (fresh_idle row) refl;
    }
seen row asked (slot {l = l} {standings = all} reached releases said) = go (seen row asked reached)
  where
    go : Seen row asked l → Seen row asked (record { clock = l.clock + 1; standings = serve said (row ++ (asked ∷ [])) all })
    go v =
        let p = part row (asked ∷ []) v.row_standings (v.asked_standing ∷ []) (length_beside v.run)
        (subst (λ (ss : List Standing). Releases l.clock (row ++ (asked ∷ [])) ss all) v.is releases) in
        let o = one_release p.below_releases in
        subst
        (λ (ss : List Standing). Seen row asked (record { clock = l.clock + 1; standings = serve said (row ++ (asked ∷ [])) ss }))
        (sym (p.is ∙ ap (λ (ss : List Standing). p.above ++ ss) o.is))
        (seen_slot said v.run p.row_releases o.release)

-- The last task's standing is the one at the row's end.
pub asked_waits : {row : List TaskRecord} {asked : TaskRecord} {l : Lane} {job : Job} (v : Seen row asked l) →
    ContainsAt (slice_index_or l.standings (length row) unreleased).waiting job → ContainsAt v.asked_standing.waiting job
asked_waits {row} {l = l} {job = job} v has =
    subst (λ (s : Standing). ContainsAt s.waiting job)
    (ap (λ (ss : List Standing). slice_index_or ss (length row) unreleased) v.is
    ∙ get_or_push v.row_standings v.asked_standing unreleased (length row) (length_beside v.run))
    has
