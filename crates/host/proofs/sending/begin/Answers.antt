use mathlib.Core.Path.{refl, sym, ◌∙◌}
use mathlib.Core.List.{[], ◌∷◌}
use Rattle.requests.specs.Request.{request_packet}
use Rattle.host.specs.Machine.{waiting_for, begun}
use Rattle.host.proofs.Answers.{gives, gives_last}
use Rattle.host.proofs.sending.begin.Goals as goal

pub returns-then-is_heard : goal.returns-then-is_heard
unfolding begun
returns-then-is_heard c =
    let a = c.args in
    gives (waiting_for a.edition a.request (request_packet a.edition a.request ∷ [])) _ _ _ _ _ _ refl c.send-length.ensures.value c.send-length.ensures.out_after
    (simp (sym c.is_heard.ensures ∙ c.if-is_heard.true)) c.waiting.ensures

pub returns-else-is_heard : goal.returns-else-is_heard
unfolding begun
returns-else-is_heard c =
    let a = c.args in
    gives_last (waiting_for a.edition a.request (request_packet a.edition a.request ∷ [])) c.over.ensures _ _ _ c.send-length.ensures.value c.send-length.ensures.out_after
    (simp (sym c.is_heard.ensures ∙ c.if-is_heard.false))
