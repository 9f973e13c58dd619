-- Reading record after record: what is known on the way, and that it comes to the list that the bytes spell.
use Rattle.std.proofs.Common.{◌≡◌, ℕ, ◌+◌, ◌<◌, ◌≤◌, ◌≢◌, ◌⊎◌, List, [], ◌∷◌, ◌++◌, length, take, Ok, Some, None, Option, IfSome, sym, refl, ap, ◌∙◌, subst, inl, inr, append_assoc, arith}
use Rattle.sheet.specs.Reading.{NameAt, Opened, name_said, unread}
use Rattle.sheet.specs.Spelling.{Entry, Frame, Spellable, entry_bytes, records_bytes}
use Rattle.sheet.specs.declared.part.Part.{Part}
use Rattle.sheet.specs.declared.reader.Reader.{Reader}
use Rattle.std.proofs.ByRecursion.{All-push}
use Rattle.std.proofs.lemmas.Bool.{cases_lt}
use Rattle.std.proofs.lemmas.List.{get_or_append_left, get_or_push, flat_map_more, length-append, length-map, length_push, map_push, take-append-le, take_at}
use Rattle.tasks.specs.Filling.{IsList, NoList, tasks_of}
use Rattle.tasks.specs.Reading.{Begins, NameOf, NoNextTask, Unreadable, no_entry, numbers_said, offset_after, tasks_said}
use Rattle.tasks.specs.Reading.Unreadable.{out_of_range, stops}
use Rattle.tasks.specs.Steps.{Joined, Scanned}
use Rattle.tasks.specs.Task.{GridRange, LaneRange, Lawful}
use Rattle.tasks.specs.declared.fault.ListFault.{ListFault}
use Rattle.tasks.specs.declared.list.TaskList.{TaskList}

-- The entries that were read so far, the list that they make, and the name that was asked for, once it was met.
pub record UnderWay (bytes : List ℕ) (asked : Option ℕ) (sheet : Reader) (list : TaskList) (name : Option Part) : Type 0 where
  pub grid : ℕ
  pub lanes : ℕ
  pub entries : List Entry
  pub begins : Begins bytes grid lanes entries (unread sheet)
  pub list_is : IsList list grid lanes (tasks_said entries)
  pub at-is : sheet.at ≡ offset_after entries
  pub bytes_are : sheet.bytes.now ≡ bytes
  pub name_met : IfSome asked (λ number. number < length entries → NameOf bytes entries number name)

-- What holds of the asked number.
if_asked : (asked : Option ℕ) (P : ℕ → Type 0) → ((number : ℕ) → asked ≡ Some number → P number) → IfSome asked P
if_asked None P h = tt
if_asked (Some number) P h = h number refl

-- At the first record.
pub begun : (bytes : List ℕ) (asked : Option ℕ) (sheet : Reader) (list : TaskList) (name : Option Part)
    → Opened bytes (Ok sheet) → IsList list sheet.grid sheet.lanes [] → UnderWay bytes asked sheet list name
begun bytes asked sheet list name opened is = record {
  grid = sheet.grid;
  lanes = sheet.lanes;
  entries = [];
  begins = record {
    frame = opened.2;
    grid_range = subst GridRange is.grid_is list.grid_range;
    lane_range = subst LaneRange is.lanes_are list.lane_range;
    few = omega arith;
    spellable = tt;
    lawful = tt;
  };
  list_is = is;
  at-is = opened.1;
  bytes_are = opened.0;
  name_met = if_asked asked _ (λ number is none. absurd (omega arith));
}

-- The grid or the lane count is out of range.
pub ranged : (bytes : List ℕ) (sheet : Reader) (grid lanes : ℕ) (fault : ListFault)
    → Opened bytes (Ok sheet) → grid ≡ sheet.grid → lanes ≡ sheet.lanes → NoList grid lanes fault → Unreadable bytes fault
ranged bytes sheet grid lanes fault opened same_grid same_lanes none =
    out_of_range opened.2 (subst (λ m. NoList sheet.grid m fault) same_lanes (subst (λ g. NoList g lanes fault) same_grid none))

-- A record that was read leaves less to read.
pub shorter : (sheet : Reader) (list : TaskList) (found : Option Part) (sheet' : Reader) (list' : TaskList) (e : Entry)
    → Joined sheet list found sheet' list' e → length (unread sheet') < length (unread sheet)
shorter sheet list found sheet' list' e j =
    let long : length (unread sheet) ≡ length (entry_bytes e ++ unread sheet') = ap length j.went_over.spelled in
    let parts = length-append (entry_bytes e) (unread sheet') in
    omega arith

module _ (bytes : List ℕ) (asked : Option ℕ) (sheet : Reader) (list : TaskList) (name : Option Part) (u : UnderWay bytes asked sheet list name) where
  count : length (tasks_of list) ≡ length u.entries
  count = ap length u.list_is.tasks_are ∙ length-map u.entries numbers_said

  -- every record was read
  pub finished : unread sheet ≡ [] → Scanned bytes asked (Ok name) list
  finished none =
      let spells = subst (λ rest. Begins bytes u.grid u.lanes u.entries rest) none u.begins in
      let at_grid = subst (λ g. Begins bytes g u.lanes u.entries []) (sym u.list_is.grid_is) spells in
      let at_lanes = subst (λ m. Begins bytes list.grid m u.entries []) (sym u.list_is.lanes_are) at_grid in
      (u.entries, at_lanes, u.list_is.tasks_are, u.name_met)

  -- the next record is refused
  pub refused : (fault : ListFault) → NoNextTask sheet.at list.grid (tasks_of list) (unread sheet) fault → Unreadable bytes fault
  refused fault none =
      let at_entries = subst (λ a. NoNextTask a list.grid (tasks_of list) (unread sheet) fault) u.at-is none in
      let at_grid = subst (λ g. NoNextTask (offset_after u.entries) g (tasks_of list) (unread sheet) fault) u.list_is.grid_is at_entries in
      let at_tasks = subst (λ ts. NoNextTask (offset_after u.entries) u.grid ts (unread sheet) fault) u.list_is.tasks_are at_grid in
      stops u.begins at_tasks

  module _ (found : Option Part) (sheet' : Reader) (list' : TaskList) (e : Entry) (j : Joined sheet list found sheet' list' e) where
    records_more : records_bytes u.entries ++ unread sheet ≡ records_bytes (u.entries ++ (e ∷ [])) ++ unread sheet'
    records_more =
        ap (λ rest. records_bytes u.entries ++ rest) j.went_over.spelled
        ∙ sym (append_assoc (records_bytes u.entries) (entry_bytes e) (unread sheet'))
        ∙ ap (λ front. front ++ unread sheet') (flat_map_more entry_bytes [] u.entries e)

    begins-more : Begins bytes u.grid u.lanes (u.entries ++ (e ∷ [])) (unread sheet')
    begins-more = record {
      frame = subst (λ rs. Frame bytes u.grid u.lanes rs) records_more u.begins.frame;
      grid_range = u.begins.grid_range;
      lane_range = u.begins.lane_range;
      few = let long = length_push u.entries e in let room = j.few in omega (arith, count);
      spellable = All-push Spellable u.entries e u.begins.spellable j.went_over.spellable;
      lawful = All-push (λ x. Lawful u.grid (numbers_said x)) u.entries e u.begins.lawful (subst (λ g. Lawful g (numbers_said e)) u.list_is.grid_is j.lawful);
    }

    list_more : IsList list' u.grid u.lanes (tasks_said (u.entries ++ (e ∷ [])))
    list_more = record {
      grid_is = j.list_is.grid_is ∙ u.list_is.grid_is;
      lanes_are = j.list_is.lanes_are ∙ u.list_is.lanes_are;
      tasks_are = j.list_is.tasks_are ∙ ap (λ ts. ts ++ (numbers_said e ∷ [])) u.list_is.tasks_are ∙ sym (map_push numbers_said u.entries e);
    }

    at_more : sheet'.at ≡ offset_after (u.entries ++ (e ∷ []))
    at_more =
        let long : length (records_bytes u.entries ++ entry_bytes e) ≡ length (records_bytes (u.entries ++ (e ∷ []))) = ap length (flat_map_more entry_bytes [] u.entries e) in
        let parts = length-append (records_bytes u.entries) (entry_bytes e) in
        let moved = j.went_over.at in
        let was = u.at-is in
        omega arith

    name-before : (number : ℕ) (name' : Option Part) → asked ≡ Some number → number < length u.entries → name' ≡ name → NameOf bytes (u.entries ++ (e ∷ [])) number name'
    name-before number name' is old same =
        let was = subst (λ (o : Option ℕ). IfSome o (λ n. n < length u.entries → NameOf bytes u.entries n name)) is u.name_met old in
        record {
          said = ap name_said same ∙ was.said ∙ ap (λ (x : Entry). x.name) (sym (get_or_append_left u.entries (e ∷ []) no_entry number old));
          at =
              let front = take-append-le number u.entries (e ∷ []) (omega arith) in
              subst (λ es. NameAt bytes (offset_after es + 13) name') (sym front) (subst (λ n. NameAt bytes (offset_after (take number u.entries) + 13) n) (sym same) was.at);
        }

    name_here : (number : ℕ) (name' : Option Part) → length u.entries ≡ number → name' ≡ found → NameOf bytes (u.entries ++ (e ∷ [])) number name'
    name_here number name' now_asked same =
        record {
          said = ap name_said same ∙ j.said ∙ ap (λ (x : Entry). x.name) (sym (get_or_push u.entries e no_entry number now_asked));
          at =
              let front = take_at u.entries (e ∷ []) number now_asked in
              let at_found = subst (λ b. NameAt b (sheet.at + 13) found) u.bytes_are j.name_at in
              let at_entries = subst (λ a. NameAt bytes (a + 13) found) u.at-is at_found in
              subst (λ es. NameAt bytes (offset_after es + 13) name') (sym front) (subst (λ n. NameAt bytes (offset_after u.entries + 13) n) (sym same) at_entries);
        }

    -- one record more
    pub went_on : (name' : Option Part) → (asked ≡ Some (length (tasks_of list)) → name' ≡ found) → (asked ≢ Some (length (tasks_of list)) → name' ≡ name)
        → UnderWay bytes asked sheet' list' name'
    went_on name' here elsewhere = record {
      grid = u.grid;
      lanes = u.lanes;
      entries = u.entries ++ (e ∷ []);
      begins = begins-more;
      list_is = list_more;
      at-is = at_more;
      bytes_are = j.went_over.bytes ∙ u.bytes_are;
      name_met = if_asked asked _ (λ number is. go number is (cases_lt number (length u.entries)));
    }
      where
        go : (number : ℕ) → asked ≡ Some number → (number < length u.entries) ⊎ (length u.entries ≤ number) → number < length (u.entries ++ (e ∷ []))
            → NameOf bytes (u.entries ++ (e ∷ [])) number name'
        go number is (inl old) inside = name-before number name' is old (elsewhere (λ same. let n = count in let m : number ≡ length (tasks_of list) = cc in absurd (omega arith)))
        go number is (inr new) inside =
            let long = length_push u.entries e in
            let n = count in
            let now_asked : length u.entries ≡ number = omega arith in
            name_here number name' now_asked (here (is ∙ ap Some (sym now_asked ∙ sym n)))
