use Rattle.std.proofs.Common.{◌≡◌, ◌-◌, length, sym, ap, ◌∙◌, arith}
use Rattle.std.proofs.lemmas.List.{drop_all, length-drop}
use Rattle.std.proofs.lemmas.Bool.{leb-true, le-leb}
use Rattle.sheet.proofs.reader.Reader.at_end.Goals as goal

pub returns : goal.returns
returns c =
    let bytes = c.args.self.now.bytes.now in
    let at = c.args.self.now.at in (
      λ test. drop_all at bytes (leb-true (length bytes) at test),
      λ none.
          let zero : length bytes - at ≡ 0 = sym (length-drop at bytes) ∙ ap length none in
          le-leb (length bytes) at (omega arith),
    )
