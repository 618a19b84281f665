-- The small repeater. Assumes nothing.
use Prim.Native.Nat.{ℕ}
use mathlib.Core.Path.{◌≡◌, refl, sym, ap, ◌∙◌}
use mathlib.Core.List.{List, [], flatten}
use native.Mathlib.Omega.{arith}
use lib.ListN.{length}
use Rattle.lists.specs.Lists.{laid_at, same}
use Rattle.lists.proofs.Sizes.{by_size}
use Rattle.settings.specs.Settings.{settings, allowed_by_row, fresh_values, within, all_allowed}
use Rattle.codes.specs.Found.{found_from}
use Rattle.models.specs.Models.{filled}
use Rattle.xor.specs.Xor.{◌⊕◌, xor_all}
use Rattle.packet.specs.declared.Edition.{Edition}
use Rattle.packet.specs.Reading.{seems_for}
use Rattle.packet.specs.Answered.{is_heard}
use Rattle.packet.proofs.Packets.{packet_length}
use Rattle.panels.specs.Wall.{place_from}
use Rattle.panels.specs.Addressed.{reaches}
use Rattle.answers.specs.Judged.{command, stored, off_already, takes, judge}
use Rattle.answers.specs.Played.{turned, answered}
use Rattle.answers.specs.Session.{session}
use Rattle.answers.specs.Sample.{two_panels}
use Rattle.answers.proofs.Longest.{too_much}
use Rattle.line.specs.declared.Heard.{Heard}
use Rattle.line.specs.declared.Receiver.{Receiver}
use Rattle.line.specs.Streams as first
use Rattle.small_receiver.specs.declared.SmallReceiver.{SmallReceiver}
use Rattle.small_receiver.specs.Stream.{streamed_by}
use Rattle.small_receiver.specs.Small.{keeping, small_of, with_byte, reading_in, streamed}
use Rattle.small_receiver.specs.AnyReceiver.{fed_after}
use Rattle.small_receiver.specs.Laws as small
use Rattle.demands.specs.Demand3.{sent, kept, on_line}
use Rattle.demands.specs.Repeater.{KeepsTwelve, SameAtMark, SameOnLine, Demand3-repeater, NoLonger, ElevenTooFew}
use Rattle.demands.proofs.Demand3.{heard_all, demand3}

pub keeps_twelve : KeepsTwelve
unfolding keeping
keeps_twelve b = fed_after with_byte (keeping 12) (small.one_more 12 (omega arith)) [] b

pub same_at_mark : SameAtMark
same_at_mark b t =
    let ours = small.marked 12 (omega arith) (omega arith) t b in
    let theirs = first.marked Edition.Sicp201 t b in (
      ap (λ (h : Heard SmallReceiver). h.reply) ours ∙ sym (ap (λ (h : Heard Receiver). h.reply) theirs),
      ap (λ (h : Heard SmallReceiver). h.damage) ours ∙ sym (ap (λ (h : Heard Receiver). h.damage) theirs),
      ap (λ (h : Heard SmallReceiver). h.table) ours ∙ sym (ap (λ (h : Heard Receiver). h.table) theirs),
      ap (λ (h : Heard SmallReceiver). h.receiver) ours,
      ap (λ (h : Heard Receiver). h.receiver) theirs,
    )

pub same_on_line : SameOnLine
same_on_line w events =
    let ours = small.stream_after 12 (omega arith) (omega arith) [] w events in (ours ∙ sym (first.stream_after Edition.Sicp201 [] w events), ours)

pub demand3_repeater : Demand3-repeater
demand3_repeater w items = rw (is (sent items), is (kept items)) (demand3 Edition.Sicp201 w items)
  where
    is : (bs : List (List ℕ)) → streamed (small_of []) w (on_line bs) ≡ session Edition.Sicp201 w bs
    is bs = (same_on_line w (on_line bs)).1 ∙ ap (session Edition.Sicp201 w) (heard_all bs)

-- more data than a packet has room for is too much as well
pub no_longer : NoLonger
no_longer i g d p some = by_size _ 8 (length d) (λ h. absurd (some (too_much d h p)))
    (λ h. rw (packet_length Edition.Sicp201 i g d (omega arith)) (omega arith))

-- one computed test
pub eleven_too_few : ElevenTooFew
unfolding settings found_from allowed_by_row fresh_values within all_allowed filled flatten ◌⊕◌ xor_all place_from reaches is_heard command stored laid_at off_already takes judge turned seems_for answered two_panels same keeping with_byte reading_in streamed_by
eleven_too_few = (refl, refl)
