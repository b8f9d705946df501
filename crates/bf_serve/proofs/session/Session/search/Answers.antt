use Rattle.std.proofs.Common.{ℕ, List, ◌++◌, Err, sym, ap, subst, ◌∙◌, arith}
use Rattle.bf_output.specs.Told.{Told}
use Rattle.bf_protocol.specs.Events.{Refused, reply_text}
use Rattle.bf_words.specs.declared.request.WordFault.{WordFault}
use Rattle.bf_words.specs.Words.{IsRead}
use Rattle.bf_serve.specs.Begins.{request_to_search, words_to_begin}
use Rattle.bf_serve.proofs.Answering.{search_asked, search_at_fault, search_no_room}
use Rattle.bf_serve.proofs.Texts.{on_ok}
use Rattle.bf_serve.proofs.session.Session.search.Goals as goal

pub returns-then-len-ge-MOST_SEARCHES-clause-served :
    goal.returns-then-len-ge-MOST_SEARCHES-clause-served
returns-then-len-ge-MOST_SEARCHES-clause-served g c =
    on_ok c.put_refusal.result
    (λ h. search_no_room (g.F.Shelf.files c.args.shelf.now) (g.F.Shelf.faults c.args.shelf.now) (g.F.Shelf.faults c.args.shelf.now)
    c.args.words.now c.args.self.now c.args.out.now c.put_refusal.new.out c.requires
    (omega (arith, c.if-len-ge-MOST_SEARCHES.true, c.len.ensures, c.args.self.now.openings.ok.0)) h)
    c.put_refusal.ensures

pub returns-in-Ok-clause-served : goal.returns-in-Ok-clause-served
returns-in-Ok-clause-served g c =
    on_ok c.search_by.result
    (λ h. search_asked (g.F.Shelf.files c.args.shelf.now) (g.F.Shelf.faults c.args.shelf.now) (g.F.Shelf.faults c.search_by.new.shelf)
    c.args.words.now c.as_slice-in-Ok.result.now c.in-Ok.request h.file c.args.self.now c.search_by.new.self c.args.out.now c.search_by.new.out
    c.requires (omega (arith, c.if-len-ge-MOST_SEARCHES.false, c.len.ensures, c.args.self.now.openings.ok.0))
    (c.as_slice-in-Ok.ensures.value ∙ c.in_ok-words.ensures
    ∙ ap (λ (pending : List (List ℕ)). words_to_begin pending c.args.words.now) c.as_slice.ensures.value)
    (ap request_to_search (c.as_slice-in-Ok.ensures.value ∙ sym c.as_slice-2.ensures.value) ∙ c.in-Ok.ensures) h.from h.serves)
    c.search_by.ensures.served

pub returns-in-Err-At-clause-served : goal.returns-in-Err-At-clause-served
returns-in-Err-At-clause-served g c =
    on_ok c.put_refused_line.result
    (λ h. search_at_fault (g.F.Shelf.files c.args.shelf.now) (g.F.Shelf.faults c.args.shelf.now) (g.F.Shelf.faults c.args.shelf.now)
    c.args.words.now c.as_slice-2.result.now c.in-Err-At.word c.args.self.now c.args.out.now c.put_refused_line.new.out c.requires
    (omega (arith, c.if-len-ge-MOST_SEARCHES.false, c.len.ensures, c.args.self.now.openings.ok.0))
    (c.as_slice-2.ensures.value ∙ c.in_ok-words.ensures
    ∙ ap (λ (pending : List (List ℕ)). words_to_begin pending c.args.words.now) c.as_slice.ensures.value)
    (subst (λ (fault : WordFault). IsRead (request_to_search c.as_slice-2.result.now) (Err fault)) c.in-Err-At.field-0-is c.in-Err-At.ensures)
    (h ∙ ap (λ (t : List ℕ). c.args.out.now ++ reply_text (Refused t))
    (c.as_slice-in-Err-At.ensures ∙ ap (λ (t : Told). t.text) c.in_ok-answer-in-Err-At.ensures.tells)))
    c.put_refused_line.ensures
