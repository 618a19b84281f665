-- Boxes that demand 2 shuts out, though some withstand spoiled packets as demand 3 asks; so demand 3 is proved of demand 2's
-- definition. 01, "What the promises have to say".
use Rattle.std.specs.Prelude.{ℕ, cond, ◌≡◌, List, [], ◌∷◌, map, get_or}
use Rattle.packet.specs.declared.Control.{Control}
use Rattle.packet.specs.declared.Edition.{Edition}
use Rattle.packet.specs.Packet.{monitor_id, is_intact}
use Rattle.panels.specs.Wall.{Wall}
use Rattle.answers.specs.declared.Answer.{Answer}
use Rattle.answers.specs.declared.Reply.{Reply}
use Rattle.answers.specs.Reply.{silence, word_from}
use Rattle.answers.specs.Played.{Outcome, played}
use Rattle.answers.specs.Session.{by_burst, session}
use Rattle.answers.specs.Sample.{two_panels}
use Rattle.demands.specs.Demand3.{Box, Withstands, SilenceOrNack}

-- always the same: silent, or one stored report
abbrev pub always : Reply → Wall → List ℕ → Outcome
always r w b = record { wall = w; reply = r }

-- every burst NAV
abbrev pub every_nav : Wall → List ℕ → Outcome
every_nav w b = record { wall = w; reply = word_from (monitor_id (get_or b 1 0)) Control.Nav }

-- never stores a set
abbrev pub never_stores : Edition → Wall → List ℕ → Outcome
never_stores edition w b = record { wall = w; reply = (played edition w b).reply }

-- plays the first burst and only acknowledges later ones
abbrev pub first_alone : Edition → Box
first_alone edition w [] = record { wall = w; replies = [] }
first_alone edition w (b ∷ bs) =
    record { wall = (played edition w b).wall; replies = (played edition w b).reply ∷ map (λ (c : List ℕ). word_from (monitor_id (get_or c 1 0)) Control.Ack) bs }

-- three more: it stores only what it answers, so that sets to a group are lost
abbrev pub if_silent : Answer → Wall → Wall → Wall
if_silent Answer.Silence w v = w
if_silent (Answer.Word c) w v = v
if_silent Answer.Report w v = v

abbrev pub stores_answered : Edition → Wall → List ℕ → Outcome
stores_answered edition w b = let o = played edition w b in record { wall = if_silent o.reply.answer w o.wall; reply = o.reply }

-- each answer is right, but goes out one burst late
abbrev pub late : Reply → List Reply → List Reply
late r [] = []
late r (s ∷ rs) = r ∷ late s rs

abbrev pub one_late : Edition → Box
one_late edition w bs = record { wall = (session edition w bs).wall; replies = late silence (session edition w bs).replies }

-- and it guesses: a burst that would be intact on the other edition is read by that
abbrev pub other_than : Edition → Edition
other_than Edition.Sicp185 = Edition.Sicp201
other_than Edition.Sicp201 = Edition.Sicp185

abbrev pub guesses : Edition → Wall → List ℕ → Outcome
guesses edition w b = cond (is_intact (other_than edition) b) (played (other_than edition) w b) (played edition w b)

-- the power state of panel 1 is asked for, its fan is set to 4, group 9's fans, on 1.85 all, to 2, and panel 2's fan is asked for
unfoldable pub written : Edition → List (List ℕ)
written Edition.Sicp185 =
    (0x04 ∷ 0x01 ∷ 0x19 ∷ 0x1C ∷ [])
    ∷ (0x05 ∷ 0x01 ∷ 0x61 ∷ 0x04 ∷ 0x61 ∷ [])
    ∷ (0x05 ∷ 0x00 ∷ 0x61 ∷ 0x02 ∷ 0x66 ∷ [])
    ∷ (0x04 ∷ 0x02 ∷ 0x62 ∷ 0x64 ∷ [])
    ∷ []
written Edition.Sicp201 =
    (0x05 ∷ 0x01 ∷ 0x00 ∷ 0x19 ∷ 0x1D ∷ [])
    ∷ (0x06 ∷ 0x01 ∷ 0x00 ∷ 0x61 ∷ 0x04 ∷ 0x62 ∷ [])
    ∷ (0x06 ∷ 0x00 ∷ 0x09 ∷ 0x61 ∷ 0x02 ∷ 0x6C ∷ [])
    ∷ (0x05 ∷ 0x02 ∷ 0x00 ∷ 0x62 ∷ 0x65 ∷ [])
    ∷ []

abbrev pub Differs : Edition → Box → Type 0
Differs edition box = box two_panels (written edition) ≡ session edition two_panels (written edition) → ⊥

abbrev pub AllDiffer : Type 0
AllDiffer =
    (edition : Edition)
    → ((r : Reply) → Differs edition (by_burst (always r))) × Differs edition (by_burst every_nav) × Differs edition (by_burst (never_stores edition))
    × Differs edition (first_alone edition) × Differs edition (by_burst (stores_answered edition)) × Differs edition (one_late edition)
    × Differs edition (by_burst (guesses edition))

-- what withstands spoiled packets all the same; the second and third do so but for the answer to the spoiled packet itself
abbrev pub SomeWithstand : Type 0
SomeWithstand =
    (edition : Edition)
    → Withstands edition SilenceOrNack (by_burst (always silence))
    × ((r : Reply) → Withstands edition (λ s. Unit {0}) (by_burst (always r)))
    × Withstands edition (λ s. Unit {0}) (by_burst every_nav)
    × Withstands edition SilenceOrNack (by_burst (never_stores edition))
    × Withstands edition SilenceOrNack (by_burst (stores_answered edition))
    × Withstands edition SilenceOrNack (by_burst (guesses edition))
