-- The name that is read is that of the one list that the bytes spell.
use Rattle.std.proofs.Common.{◌≡◌, ℕ, List, [], length, get_or, Ok, Err, Option, Result, ap, ◌∙◌, subst, inl, inr, arith}
use Rattle.lanes.specs.Steps.{NameThere}
use Rattle.sheet.specs.Reading.{name_said}
use Rattle.sheet.specs.Spelling.{Entry}
use Rattle.sheet.specs.declared.part.Part.{Part}
use Rattle.tasks.proofs.Settled.{settled}
use Rattle.tasks.specs.Reading.{NameRead, no_entry}
use Rattle.tasks.specs.declared.fault.ListFault.{ListFault}

-- the name, or no bytes for a refusal
abbrev pub name_or_none : Result (Option Part) ListFault → List ℕ
name_or_none (Ok name) = name_said name
name_or_none (Err fault) = []

pub name-is : (bytes : List ℕ) (task : ℕ) (r : Result (Option Part) ListFault) → NameRead bytes task r → NameThere bytes task (name_or_none r)
name-is bytes task (Ok name) read grid lanes entries spells inside =
    let same = settled.one_list bytes read.0 grid read.1 lanes read.2 entries read.3 spells in
    read.5.said ∙ ap (λ (es : List Entry). (get_or es task no_entry).name) same.2
name-is bytes task (Err fault) (inl bad) grid lanes entries spells inside =
    absurd (settled.never_both bytes grid lanes entries fault spells bad)
name-is bytes task (Err fault) (inr read) grid lanes entries spells inside =
    let same = settled.one_list bytes read.0 grid read.1 lanes read.2 entries read.3 spells in
    let long : length read.2 ≡ length entries = ap length same.2 in
    absurd (let past = read.4 in omega arith)

-- what was read, as bytes
pub name_there : (bytes : List ℕ) (task : ℕ) (r : Result (Option Part) ListFault) (name : List ℕ) → name_or_none r ≡ name → NameRead bytes task r → NameThere bytes task name
name_there bytes task r name is read = subst (NameThere bytes task) is (name-is bytes task r read)
