-- Demand 1. That every function comes back without a fault is what the prover shows of each. The rest: a refusal changes neither
-- table nor host nor a lent buffer, a bad burst changes no panel, and writing changes no byte but those written.
use Rattle.std.specs.Prelude.{ℕ, ◌<◌, false, cond, ◌⊎◌, ◌≡◌, List, eqb, length, get_or, drop, Ok, Err, None}
use Rattle.packet.specs.declared.Edition.{Edition}
use Rattle.packet.specs.declared.MonitorId.{MonitorId}
use Rattle.packet.specs.declared.GroupId.{GroupId}
use Rattle.packet.specs.declared.Verdict.{Verdict}
use Rattle.packet.specs.Reading.{Reading}
use Rattle.lists.specs.Lists.{laid_over}
use Rattle.panels.specs.declared.Panel.{Panel}
use Rattle.panels.specs.declared.Table.{Table}
use Rattle.panels.specs.Wall.{Wall, blank, panels_of}
use Rattle.panels.specs.Addressed.{reaches}
use Rattle.table_calls.specs.Calls.{add_refusal, added, remove_refusal, removed}
use Rattle.panels.specs.WellFormed.{WellFormed}
use Rattle.answers.specs.declared.Reply.{Reply}
use Rattle.answers.specs.Reply.{sent_bytes, sent_of, refusal_number as answer_number, output_of as answer_output}
use Rattle.answers.specs.Judged.{command, judge, not_available}
use Rattle.answers.specs.Played.{answered}
use Rattle.image_forms.specs.declared.Form.{Form}
use Rattle.refusals.specs.declared.Refusal.{Refusal as ImageRefusal}
use Rattle.image_write.specs.Written.{size_of, written_of, written_number as image_number, output_of as image_output}
use Rattle.image_read.specs.Read.{read_of, in_table}
use Rattle.host.specs.declared.Host.{Host}
use Rattle.host.specs.declared.Refusal.{Refusal as HostRefusal}
use Rattle.host.specs.declared.Outcome.{Outcome}
use Rattle.host.specs.Machine.{Happening}
use Rattle.host.specs.Calls.{state_of, step_of, call, bytes_of}

-- a refusal of add or remove leaves the wall as it was
abbrev pub AddRefused : Type 0
AddRefused = (w : Wall) (i : MonitorId) (g : GroupId) (n k : ℕ) → (add_refusal w i g n k ≡ None → ⊥) → added w i g n k ≡ w

abbrev pub RemoveRefused : Type 0
RemoveRefused = (w : Wall) (i : MonitorId) → (remove_refusal w i ≡ None → ⊥) → removed w i ≡ w

-- a refused image gives its refusal, and no table
abbrev pub ReadRefused : Type 0
ReadRefused =
    (image : List ℕ) (r : ImageRefusal) → read_of image ≡ Err r
    → (in_table (read_of image) ≡ Err r) × ((t : Table) → in_table (read_of image) ≡ Ok t → ⊥)

-- a refused call of the host leaves the host and the output as they were
abbrev pub CallRefused : Type 0
CallRefused =
    (out : List ℕ) (host : Host) (h : Happening) (r : HostRefusal)
    → let m = call out (state_of host) h in
    m.outcome ≡ Outcome.Refused r → ((step_of m).host ≡ host) × (laid_over (bytes_of m) out ≡ out)

-- a burst with this verdict and data is bad for a panel: empty or damaged, not to this panel, or not available
abbrev pub Bad : Verdict → List ℕ → Panel → Type 0
Bad Verdict.Empty d p = Unit {0}
Bad (Verdict.Damaged damage) d p = Unit {0}
Bad (Verdict.Intact i g n) d p = (reaches i g p ≡ false) ⊎ (judge (command d) p ≡ not_available)

-- whatever was read of it
abbrev pub BadForEach : Wall → Reading → Type 0
BadForEach w r = (k : ℕ) → k < length w → Bad r.verdict r.part (get_or w k blank)

abbrev pub BadBurst : Type 0
BadBurst = (w : Wall) (r : Reading) → BadForEach w r → (answered w r).wall ≡ w

-- behind the bytes that were written, none on a refusal, the output is as before
abbrev pub AnswerAlone : Type 0
AnswerAlone =
    (edition : Edition) (out : List ℕ) (r : Reply)
    → let n = cond (eqb (answer_number (sent_of edition out r)) 0) (length (sent_bytes edition r)) 0 in
    drop n (answer_output edition out r) ≡ drop n out

abbrev pub ImageAlone : Type 0
ImageAlone =
    (form : Form) (t : Table) → WellFormed t → (out : List ℕ)
    → let n = cond (eqb (image_number (written_of form (panels_of t) out)) 0) (size_of form (panels_of t)) 0 in
    drop n (image_output form (panels_of t) out) ≡ drop n out
