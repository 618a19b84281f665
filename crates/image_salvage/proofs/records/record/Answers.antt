use mathlib.Core.Path.{◌≡◌, sym, ap, ap₂, ◌∙◌}
use mathlib.Core.List.{List}
use Prim.Native.Nat.{ℕ, ◌+◌, ◌-◌, ◌≤◌}
use native.Mathlib.Omega.{arith}
use lib.ListN.{length, take, drop, length-drop}
use lib.Seq.{take_all}
use Rattle.std.specs.Prelude.{Some, None}
use Rattle.lists.specs.Lists.{laid_at}
use Rattle.image_forms.specs.Forms.{head_size}
use Rattle.image_forms.proofs.Laws.{head_some}
use Rattle.image_faults.specs.declared.Fault.{Fault}
use Rattle.image_record.specs.Head.{marked, head_in, headed}
use Rattle.image_record.proofs.Heads.{head-whole}
use Rattle.image_salvage.specs.declared.KeptRecord.{KeptRecord}
use Rattle.image_salvage.specs.Kept.{Kept, kept_of}
use Rattle.image_salvage.specs.Salvaged.{lines_of}
use Rattle.image_salvage.specs.Private.Marked.{faults_by, record_by}
use Rattle.image_salvage.proofs.Walk.{lines_one}
use Rattle.image_salvage.proofs.records.record.Goals as goal

-- all bytes behind the head
behind_head : (n size : ℕ) (bytes : List ℕ) → n ≡ size → size ≤ length bytes → take (length bytes - n) (drop n bytes) ≡ drop size bytes
behind_head n size bytes e h = take_all (length bytes - n) (drop n bytes) (rw length-drop (omega arith)) ∙ rw e

pub returns-in_default : goal.returns-in_default
unfolding faults_by record_by
returns-in_default c =
    let a = c.args in
    let unknown : head_in a.form (marked a.seen.now) a.bytes.now ≡ None = sym c.head_in.ensures ∙ c.in_default.is in
    record {
      value = rw (unknown, lines_one a.number Fault.Dropped) (ap {B = KeptRecord} (λ (n : ℕ). record { panel = None; next = n }) c.tell-next.ensures.value);
      lines_after = rw (unknown, lines_one a.number Fault.Dropped) c.tell-next.ensures.lines_after;
    }

pub slice_bounds-behind-count : goal.slice_bounds-behind-count
slice_bounds-behind-count c =
    let a = c.args in
    omega (arith, c.head_size.ensures, head-whole a.form (marked a.seen.now) a.bytes.now _ (sym c.head_in.ensures ∙ c.in-Some.is))

pub slice_bounds-behind-start : goal.slice_bounds-behind-start
slice_bounds-behind-start c =
    let a = c.args in
    omega (arith, c.head_size.ensures, head-whole a.form (marked a.seen.now) a.bytes.now _ (sym c.head_in.ensures ∙ c.in-Some.is))

pub bounds-bytes-0 : goal.bounds-bytes-0
bounds-bytes-0 c =
    let a = c.args in
    omega (arith, head-whole a.form (marked a.seen.now) a.bytes.now _ (sym c.head_in.ensures ∙ c.in-Some.is), head_some a.form)

pub bounds-bytes-1 : goal.bounds-bytes-1
bounds-bytes-1 c =
    let a = c.args in
    omega (arith, head-whole a.form (marked a.seen.now) a.bytes.now _ (sym c.head_in.ensures ∙ c.in-Some.is), head_some a.form)

pub returns : goal.returns
unfolding faults_by record_by
returns c =
    let a = c.args in
    let bytes = a.bytes.now in
    let profile = c.in-Some.profile in
    let known : head_in a.form (marked a.seen.now) bytes ≡ Some profile = sym c.head_in.ensures ∙ c.in-Some.is in
    let part = behind_head c.head_size.result (head_size a.form) bytes c.head_size.ensures (head-whole a.form (marked a.seen.now) bytes _ known) in
    let same = ap (kept_of a.form profile) part in
    let values = c.kept-fields.ensures.values_value ∙ ap (λ (k : Kept). k.values) same in
    let next = c.kept-fields.ensures.next_value ∙ ap (λ (k : Kept). a.from + length (lines_of a.number k.faults)) same in
    let laid = c.kept-fields.ensures.lines_after ∙ ap (λ (k : Kept). laid_at a.from (lines_of a.number k.faults) a.lines.now) same in
    record {
      value = rw known (ap₂ {C = KeptRecord} (λ (vs : List ℕ) (n : ℕ). record { panel = Some (headed bytes profile vs); next = n }) values next);
      lines_after = rw known laid;
    }
