use Rattle.std.proofs.Common.{ℕ, ◌<◌, List, Option, Ok, get_or, length, subst, sym, refl, ap, ◌∙◌, arith, rules}
use Rattle.std.specs.Option.{option_map}
use Rattle.std.proofs.lemmas.Bool.{eq-eqb, ne_eqb}
use Rattle.bf_grammar.specs.Place.{Place, Gives, moved}
use Rattle.bf_grammar.specs.Lines.{skip_end_of_line}
use Rattle.bf_stream.specs.declared.window.Filled.{Filled}
use Rattle.bf_stream.specs.Filling.{IsReady}
use Rattle.bf_stream.specs.Held.{Held, beyond_of, place_of}
use Rattle.bf_stream.proofs.Chains.{reads_as}
use Rattle.bf_stream.proofs.Holding.{place_of-moved}
use Rattle.bf_stream.proofs.Pieces.{skip_ends, skip_goes, skip_end, skip_past}
use Rattle.bf_stream.proofs.cursor.Cursor.skip_end_of_line.Goals as goal

pub returns-in-End : goal.returns-in-End
returns-in-End g c =
    let ready = subst (λ (f : Filled). IsReady c.fill_if_empty.new.self (g.S.Source.left c.fill_if_empty.new.source) (Ok f)) c.in-End.is
    c.in_ok-fill_if_empty.ensures.ready in
    let now = place_of c.fill_if_empty.new.self (g.S.Source.left c.fill_if_empty.new.source) in
    reads_as (subst (λ (b : Option Place). Gives (λ (done : Unit {0}). done) b now (Ok tt) skip_end_of_line) c.in_ok-fill_if_empty.ensures.place
    (skip_end c.fill_if_empty.new.self (g.S.Source.left c.fill_if_empty.new.source) now refl ready.0 ready.1 ready.2)) (search rules) c.in_ok-fill_if_empty.ensures.beyond

pub returns-in-Past : goal.returns-in-Past
returns-in-Past g c =
    let ready = subst (λ (f : Filled). IsReady c.fill_if_empty.new.self (g.S.Source.left c.fill_if_empty.new.source) (Ok f)) c.in-Past.is
    c.in_ok-fill_if_empty.ensures.ready in
    reads_as (skip_past c.fill_if_empty.new.self (g.S.Source.left c.fill_if_empty.new.source) _ _ c.in_ok-fill_if_empty.ensures.place ready.0 ready.1 ready.2)
    (search rules) c.in_ok-fill_if_empty.ensures.beyond

pub returns-then-bytes-eq10 : goal.returns-then-bytes-eq10
returns-then-bytes-eq10 g c =
    let left = g.S.Source.left c.fill_if_empty.new.source in
    let some : 0 < length c.fill_if_empty.new.self.bytes = subst
    (λ (f : Filled). IsReady c.fill_if_empty.new.self (g.S.Source.left c.fill_if_empty.new.source) (Ok f)) c.in-More.is
    c.in_ok-fill_if_empty.ensures.ready in
    reads_as (skip_ends c.fill_if_empty.new.self left _ _ c.in_ok-fill_if_empty.ensures.place
    (ap (λ (h : Held). place_of h left) c.take.ensures ∙ place_of-moved 1 c.fill_if_empty.new.self left (omega arith) ∙ ap (option_map (moved 1))
    c.in_ok-fill_if_empty.ensures.place)
    some (eq-eqb _ _ (ap (λ (l : List ℕ). get_or l 0 0) (sym c.bytes.ensures.bytes) ∙ c.if-bytes-eq10.true))) (search rules)
    (ap (λ (h : Held). beyond_of h left) c.take.ensures ∙ c.in_ok-fill_if_empty.ensures.beyond)

pub returns-else-bytes-eq10 : goal.returns-else-bytes-eq10
returns-else-bytes-eq10 g c =
    let left = g.S.Source.left c.fill_if_empty.new.source in
    let now = place_of c.fill_if_empty.new.self left in
    let some : 0 < length c.fill_if_empty.new.self.bytes = subst
    (λ (f : Filled). IsReady c.fill_if_empty.new.self (g.S.Source.left c.fill_if_empty.new.source) (Ok f)) c.in-More.is
    c.in_ok-fill_if_empty.ensures.ready in
    reads_as (subst (λ (b : Option Place). Gives (λ (done : Unit {0}). done) b now (Ok tt) skip_end_of_line) c.in_ok-fill_if_empty.ensures.place
    (skip_goes c.fill_if_empty.new.self left now refl some
    (ne_eqb _ _ (λ e. c.if-bytes-eq10.false (ap (λ (l : List ℕ). get_or l 0 0) c.bytes.ensures.bytes ∙ e))))) (search rules) c.in_ok-fill_if_empty.ensures.beyond
