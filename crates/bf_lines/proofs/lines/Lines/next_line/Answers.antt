use Rattle.std.proofs.Common.{ℕ, ◌≡◌, ◌≤◌, ◌++◌, List, Option, Some, None, Result, Ok, Err, OnErr, take, length, subst, sym, ap, ◌∙◌, arith}
use Rattle.std.specs.List.{list_any}
use Rattle.bf_lines.specs.declared.lines.Found.TheVariants as kinds
use Rattle.bf_lines.specs.declared.lines.Length.{Length}
use Rattle.bf_lines.specs.declared.lines.Length.TheVariants.{Short, Long}
use Rattle.bf_lines.specs.Lines.{IsFound, IsLine, Loses, NextIs, is_end, told}
use Rattle.bf_lines.proofs.Filling.{drop-all, length-take-below}
use Rattle.bf_lines.proofs.Finding.{err_as, loses_none, next_nothing, next_passed, next_short}
use Rattle.bf_lines.proofs.lines.Lines.next_line.Goals as goal

-- what was copied is the line
short_line : (line held : List ℕ) (size : ℕ) → line ≡ take size held → size ≤ 65535 → length line ≤ 65535
short_line line held size is short = omega (arith, ap length is, length-take-below size held)

-- what is left stayed until the line was found
since : (before mid now : Option (List ℕ)) (line : List ℕ) (next : Option Length) → mid ≡ before → NextIs mid now line next → NextIs before now line next
since before mid now line next stays is = subst (λ (b : Option (List ℕ)). NextIs b now line next) stays is

lost_since : (before mid now : Option (List ℕ)) → mid ≡ before → Loses mid now → Loses before now
lost_since before mid now stays loses = subst (λ (b : Option (List ℕ)). Loses b now) stays loses

kept : (before now : Option (List ℕ)) → now ≡ before → Loses before now
kept before now stays = subst (λ (b : Option (List ℕ)). Loses b now) stays (loses_none now)

pub returns-in_err-find-clause-lost : goal.returns-in_err-find-clause-lost
returns-in_err-find-clause-lost g c =
    err_as c.from_residual.result (Loses (told c.args.self.now (g.S.Source.left c.args.source.now)) (told c.find.new.self (g.S.Source.left c.find.new.source)))
    (kept _ _ c.in_err-find.ensures.stays)

pub take_line-requires : goal.take_line-requires
take_line-requires g c = omega (arith, ap length c.bytes-torn.ensures)

pub returns-in-Nothing-clause-next : goal.returns-in-Nothing-clause-next
returns-in-Nothing-clause-next g c =
    let left = g.S.Source.left c.find.new.source in
    let found = rw c.in-Nothing.is at c.in_ok-find.ensures.found in
    since (told c.args.self.now (g.S.Source.left c.args.source.now)) (told c.find.new.self left) (told c.take_line.new.self left) c.clear.new.self None
    c.in_ok-find.ensures.stays
    (next_nothing c.find.new.self c.take_line.new.self left c.clear.new.self found.0 found.1
    (c.take_line.ensures ∙ drop-all _ c.find.new.self (omega (arith, ap length c.bytes-torn.ensures))))

pub returns-in_err-copy_line-in-Line-clause-lost : goal.returns-in_err-copy_line-in-Line-clause-lost
returns-in_err-copy_line-in-Line-clause-lost g c =
    err_as c.from_residual-in_err-copy_line-in-Line.result
    (Loses (told c.args.self.now (g.S.Source.left c.args.source.now)) (told c.copy_line.new.self (g.S.Source.left c.find.new.source)))
    (kept (told c.args.self.now (g.S.Source.left c.args.source.now)) _
    (ap (λ (h : List ℕ). told h (g.S.Source.left c.find.new.source)) c.in_err-copy_line-in-Line.ensures.same ∙ c.in_ok-find.ensures.stays))

pub returns-in_ok-copy_line-in-Line-clause-next : goal.returns-in_ok-copy_line-in-Line-clause-next
returns-in_ok-copy_line-in-Line-clause-next g c =
    let left = g.S.Source.left c.find.new.source in
    let found : IsLine c.find.new.self c.in-Line.size = rw c.in-Line.is at c.in_ok-find.ensures.found in
    since (told c.args.self.now (g.S.Source.left c.args.source.now)) (told c.find.new.self left) (told c.copy_line.new.self left) c.copy_line.new.line (Some Short)
    c.in_ok-find.ensures.stays
    (subst (λ (h : List ℕ). NextIs (told c.find.new.self left) (told h left) c.copy_line.new.line (Some Short)) (sym c.in_ok-copy_line-in-Line.ensures.behind)
    (next_short c.find.new.self c.in-Line.size left c.copy_line.new.line found
    (c.in_ok-copy_line-in-Line.ensures.line ∙ ap (λ (l : List ℕ). l ++ take c.in-Line.size c.find.new.self) c.clear.ensures)))

pub returns-in_ok-copy_line-in-Line-clause-short : goal.returns-in_ok-copy_line-in-Line-clause-short
returns-in_ok-copy_line-in-Line-clause-short g c =
    let found : IsLine c.find.new.self c.in-Line.size = rw c.in-Line.is at c.in_ok-find.ensures.found in
    short_line c.copy_line.new.line c.find.new.self c.in-Line.size (c.in_ok-copy_line-in-Line.ensures.line
    ∙ ap (λ (l : List ℕ). l ++ take c.in-Line.size c.find.new.self) c.clear.ensures) found.short

pub returns-in_err-pass_line-in-Long-clause-lost : goal.returns-in_err-pass_line-in-Long-clause-lost
returns-in_err-pass_line-in-Long-clause-lost g c =
    err_as c.from_residual-in_err-pass_line-in-Long.result
    (Loses (told c.args.self.now (g.S.Source.left c.args.source.now)) (told c.pass_line.new.self (g.S.Source.left c.pass_line.new.source)))
    (lost_since _ (told c.find.new.self (g.S.Source.left c.find.new.source)) _ c.in_ok-find.ensures.stays
    c.in_err-pass_line-in-Long.ensures.lost)

pub returns-in_err-pass_line-in-Long-clause-held : goal.returns-in_err-pass_line-in-Long-clause-held
returns-in_err-pass_line-in-Long-clause-held g c = λ some.
    c.in_err-pass_line-in-Long.ensures.held (ap (list_any is_end) (c.in_ok-find.ensures.same some) ∙ some) ∙ c.in_ok-find.ensures.held some

pub returns-in_ok-pass_line-in-Long-clause-held : goal.returns-in_ok-pass_line-in-Long-clause-held
returns-in_ok-pass_line-in-Long-clause-held g c = λ some.
    c.in_ok-pass_line-in-Long.ensures.held (ap (list_any is_end) (c.in_ok-find.ensures.same some) ∙ some) ∙ c.in_ok-find.ensures.held some

pub returns-in_ok-pass_line-in-Long-clause-next : goal.returns-in_ok-pass_line-in-Long-clause-next
returns-in_ok-pass_line-in-Long-clause-next g c =
    let left = g.S.Source.left c.find.new.source in
    let now = told c.pass_line.new.self (g.S.Source.left c.pass_line.new.source) in
    let long : IsFound c.find.new.self left kinds.Long = rw c.in-Long.is at c.in_ok-find.ensures.found in
    since (told c.args.self.now (g.S.Source.left c.args.source.now)) (told c.find.new.self left) now c.clear.new.self c.long_line.result
    c.in_ok-find.ensures.stays
    (next_passed c.find.new.self left now c.clear.new.self c.in_ok-pass_line-in-Long.field-0 c.long_line.result c.long_line.ensures long
    c.in_ok-pass_line-in-Long.ensures.passes)

pub copy_line-requires : goal.copy_line-requires
copy_line-requires g c =
    let found : IsLine c.find.new.self c.in-Line.size = rw c.in-Line.is at c.in_ok-find.ensures.found in
    found.end.within
