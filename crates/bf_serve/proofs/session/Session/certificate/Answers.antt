use Rattle.std.proofs.Common.{ℕ, ◌-◌, List, ◌++◌, length, Some, refl, sym, ap, subst, ◌∙◌}
use Rattle.std.specs.Option.{option_copied}
use Rattle.bf_cert.specs.Certificates.{IsWithin}
use Rattle.bf_cert.specs.Lines.{cert_text}
use Rattle.bf_protocol.specs.Events.{Certified, reply_text}
use Rattle.bf_search.specs.declared.farm.Ending.{Ending}
use Rattle.bf_serve.proofs.Certifying.{core_found, served_certified}
use Rattle.bf_serve.proofs.Holding.{same_len}
use Rattle.bf_serve.proofs.Sessions.{over_at}
use Rattle.bf_serve.proofs.Texts.{on_ok}
use Rattle.bf_serve.proofs.session.Session.certificate.Goals as goal

pub make_cert-requires-clause-len : goal.make_cert-requires-clause-len
make_cert-requires-clause-len c =
    same_len c.args.self.now (c.args.number - 1) c.core-core.result.now c.state-state.result.now c.requires.serving c.core-core.ensures
    c.state-state.ensures.consumed c.state-state.ensures.state c.len-len.ensures.below

pub make_cert-requires-clause-found : goal.make_cert-requires-clause-found
make_cert-requires-clause-found c =
    core_found c.args.self.now.reach.now c.core-core.result.now c.state-state.result.now c.in-Some-FirstBad.field-0-0
    (over_at c.args.self.now (c.args.number - 1) c.core-core.result.now c.requires.serving c.core-core.ensures)
    c.state-state.ensures.consumed
    (sym c.ending.ensures.ending ∙ ap option_copied c.in-Some-FirstBad.is ∙ ap (λ (e : Ending). Some e) c.in-Some-FirstBad.field-0-is)
    c.state-state.ensures.state

pub write_cert-requires : goal.write_cert-requires
write_cert-requires c =
    subst (λ (n : ℕ). IsWithin n c.in_ok-cert.cert)
    (sym (same_len c.args.self.now (c.args.number - 1) c.core-core.result.now c.state-state.result.now c.requires.serving c.core-core.ensures
    c.state-state.ensures.consumed c.state-state.ensures.state c.len-len.ensures.below)
    ∙ ap (λ (graph : List (List ℕ)). length graph) c.requires.serving.reach) c.in_ok-cert.ensures.within

pub returns : goal.returns
returns c =
    on_ok c.put_certificate.result
    (λ h. served_certified c.args.self.now c.args.number (c.args.number - 1) c.in-Some-FirstBad.field-0-0 c.core-core.result.now c.state-state.result.now
    c.in_ok-cert.cert c.args.out.now c.put_certificate.new.out c.requires.serving refl c.core-core.ensures
    (over_at c.args.self.now (c.args.number - 1) c.core-core.result.now c.requires.serving c.core-core.ensures)
    c.state-state.ensures.consumed
    (sym c.ending.ensures.ending ∙ ap option_copied c.in-Some-FirstBad.is ∙ ap (λ (e : Ending). Some e) c.in-Some-FirstBad.field-0-is)
    c.state-state.ensures.state c.in_ok-cert.ensures.made
    (h ∙ ap (λ (t : List ℕ). c.args.out.now ++ reply_text (Certified c.args.number t))
    (c.as_slice.ensures ∙ c.in_ok-write_cert.ensures.ok
    ∙ ap (λ (t : List ℕ). t ++ cert_text c.args.self.now.history.now.names c.in_ok-cert.cert) c.new-text.ensures)))
    c.put_certificate.ensures
