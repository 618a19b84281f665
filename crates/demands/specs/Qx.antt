-- QX panels on the same wall. 02, A13; 004, 2.3, 2.4.1, 3.2 and 11.1 to 11.3. Packets and answers are written out here, byte by byte.
use Rattle.std.specs.Prelude.{ℕ, ◌<◌, Bool, cond, not, ◌&&◌, ◌||◌, ◌≡◌, leb, eqb, length, get_or, take, drop, replicate, Some, None, Result, Ok, Err}
use mathlib.Core.List.{List, [], ◌∷◌, ◌++◌, map, flatten}
use Rattle.lists.specs.Lists.{same}
use Rattle.xor.specs.Xor.{xor_all}
use Rattle.settings.specs.declared.Profile.{Profile}
use Rattle.tiling.specs.declared.Kind.{Kind}
use Rattle.settings.specs.Profiles.{profile_number}
use Rattle.packet.specs.declared.Edition.{Edition}
use Rattle.packet.specs.Packet.{monitor_id, group_id}
use Rattle.packet.specs.Spoiled.{Spoiling, spoiled, Spoils}
use Rattle.requests.specs.declared.Request.{Request}
use Rattle.requests.specs.Request.{is_request, values_of}
use Rattle.qx.specs.declared.Refusal.{Refusal}
use Rattle.qx.specs.declared.Reply.{Reply}
use Rattle.qx.specs.declared.Packets.{Packets}
use Rattle.qx.specs.Translation.{refusal_number, translated, translated_over}
use Rattle.qx.specs.Replies.{Answer, reply_number, wrong, is_wrong, is_ack, joined, heard_by}
use Rattle.demands.specs.Scenes.{list_of}

-- what a call with an output of so many bytes is refused by, 0 where it is not
abbrev pub number_of : Result Packets Refusal → ℕ
number_of (Ok packets) = 0
number_of (Err refusal) = refusal_number refusal

abbrev pub number_for : ℕ → Request → ℕ
number_for room r = number_of (translated room r)

-- a video of which nothing is lost: colour, sharpness, tint and gamma
abbrev pub nothing_lost : List ℕ → Bool
nothing_lost v = same (get_or v 1 0 ∷ get_or v 3 0 ∷ get_or v 4 0 ∷ get_or v 6 0 ∷ []) (50 ∷ 50 ∷ 50 ∷ 3 ∷ [])

-- to one panel by its ID the get and the set of power, and the general set of video
abbrev pub is_carried : Request → Bool
is_carried r =
    (eqb r.group.0 0 && not (eqb r.id.0 0))
    && (eqb r.code 0x19 || eqb r.code 0x18 || (eqb r.code 0x32 && eqb (profile_number r.model.profile) 0 && nothing_lost (values_of r)))

-- 19, an output under 40 bytes; then 22, no request of a 2.01 line; then 34, every other that is not carried. All others are.
abbrev pub QxNumbers : Type 0
QxNumbers = (room : ℕ) (r : Request) → number_for room r ≡ cond (leb 40 room) (cond (is_request Edition.Sicp201 r) (cond (is_carried r) 0 34) 22) 19

-- the XOR of all bytes behind them
abbrev pub summed : List ℕ → List ℕ
summed bytes = bytes ++ xor_all bytes ∷ []

abbrev pub setting : ℕ → ℕ → ℕ → List ℕ
setting id code v = summed (0xA6 ∷ id ∷ 0 ∷ 0 ∷ 0 ∷ 4 ∷ 1 ∷ code ∷ v ∷ [])

-- one packet, or brightness, contrast and black level
abbrev pub packets_of : Request → List (List ℕ)
packets_of r =
    let i = r.id.0 in
    let v = values_of r in
    cond (eqb r.code 0x19) (summed (0xA6 ∷ i ∷ 0 ∷ 0 ∷ 0 ∷ 3 ∷ 1 ∷ 0x19 ∷ []) ∷ [])
    (cond (eqb r.code 0x18) (setting i 0x18 (get_or v 0 0) ∷ []) (setting i 0xC0 (get_or v 0 0) ∷ setting i 0xC2 (get_or v 2 0) ∷ setting i 0xC4 (get_or v 5 0) ∷ []))

-- The packets of a request that is not refused stand one behind the other at the front of the output, and their sizes are told. The
-- rest of the output stays, and all of it where the request is refused.
abbrev pub Translated : Type 0
Translated =
    (out : List ℕ) (r : Request) → number_for (length out) r ≡ 0
    → let ps = packets_of r in
    (translated_over out r ≡ flatten ps ++ drop (length (flatten ps)) out)
    × (translated (length out) r ≡ Ok (record { count = length ps; sizes = map length ps ++ drop (length ps) (0 ∷ 0 ∷ 0 ∷ []) }))

abbrev pub NotTranslated : Type 0
NotTranslated =
    (out : List ℕ) (r : Request) → (number_for (length out) r ≡ 0 → ⊥)
    → (translated_over out r ≡ out) × ((refusal : Refusal) × (translated (length out) r ≡ Err refusal))

-- a panel that follows 004 answers a packet with its own ID, the packet's command code and a value
abbrev pub answer_to : List ℕ → ℕ → List ℕ
answer_to packet v = summed (0x21 ∷ get_or packet 1 0 ∷ 0 ∷ 0 ∷ 4 ∷ 1 ∷ get_or packet 7 0 ∷ v ∷ [])

-- what a value says to a packet: 1 off and 2 on to the get of power, 0 to a set, 3 and 4 to either; any other is 35
abbrev pub value_to : List ℕ → ℕ → Answer
value_to packet v =
    cond (eqb v 3) (Ok Reply.Nack)
    (cond (eqb v 4) (Ok Reply.Nav)
    (cond (eqb (get_or packet 7 0) 0x19) (cond (eqb v 1 || eqb v 2) (Ok (Reply.Report v)) wrong) (cond (eqb v 0) (Ok Reply.Ack) wrong)))

-- what any bytes say to it
abbrev pub says_to : List ℕ → List ℕ → Answer
says_to packet x = let v = get_or x 7 0 in cond (same x (answer_to packet v)) (value_to packet v) wrong

-- to each packet its own
abbrev pub each_to : {A B : Type 0} → (List ℕ → A → B) → List (List ℕ) → List A → List B
each_to f [] xs = []
each_to f (p ∷ ps) [] = []
each_to f (p ∷ ps) (x ∷ xs) = f p x ∷ each_to f ps xs

-- Of any answers to the packets of a request, in their order, the replies are joined; where there are more or fewer, or one is cut
-- short, they are no answers.
abbrev pub Reads : Type 0
Reads =
    (r : Request) (xs : List (List ℕ)) → number_for 40 r ≡ 0
    → (heard_by r (list_of xs) ≡ cond (eqb (length xs) (length (packets_of r))) (Some (joined (each_to says_to (packets_of r) xs))) None)
    × ((n : ℕ) (part : List ℕ) → length part < n → heard_by r (list_of xs ++ n ∷ part) ≡ None)

-- To a request that is refused there are none.
abbrev pub NoneAsked : Type 0
NoneAsked = (r : Request) (bytes : List ℕ) → (number_for 40 r ≡ 0 → ⊥) → heard_by r bytes ≡ None

-- 35 is the number of an answer that is none, and of no other.
abbrev pub AnswerNumbers : Type 0
AnswerNumbers =
    (v : ℕ)
    → (reply_number wrong ≡ 35)
    × (reply_number (Ok Reply.Ack) ≡ 0)
    × (reply_number (Ok Reply.Nack) ≡ 0)
    × (reply_number (Ok Reply.Nav) ≡ 0)
    × (reply_number (Ok (Reply.Report v)) ≡ 0)

-- One reply is all that is said; of three, 35 if any is 35, ACK if all are ACK, else the first that is not.
abbrev pub Joined : Type 0
Joined =
    (a b c : Answer)
    → (joined (a ∷ []) ≡ a) × (joined (a ∷ b ∷ c ∷ []) ≡ cond (is_wrong a || (is_wrong b || is_wrong c)) wrong (cond (is_ack a) (cond (is_ack b) c b) a))

-- A panel's answers are read back as what their values say,
abbrev pub ReadBack : Type 0
ReadBack =
    (r : Request) (vs : List ℕ) → number_for 40 r ≡ 0 → length vs ≡ length (packets_of r)
    → heard_by r (list_of (each_to answer_to (packets_of r) vs)) ≡ Some (joined (each_to value_to (packets_of r) vs))

-- and where one of them is spoiled by one byte, all are 35, whatever the others are.
abbrev pub SpoiledAnswer : Type 0
SpoiledAnswer =
    (r : Request) (before after : List (List ℕ)) (v : ℕ) (s : Spoiling) → number_for 40 r ≡ 0
    → let answer = answer_to (get_or (packets_of r) (length before) []) v in
    Spoils s answer → length (before ++ spoiled s answer ∷ after) ≡ length (packets_of r) → heard_by r (list_of (before ++ spoiled s answer ∷ after)) ≡ Some wrong

-- 004's examples, to display 1: the get of power, power off, and brightness, contrast and black level 20, whose checksums 004 prints as
-- 0xF2; a report of on, whose checksum it leaves out, an ACK, and one with the command code 0x00
abbrev pub asking : ℕ → List ℕ → ℕ → Request
asking code values n = record {
  model = record { profile = Profile.General; kind = Kind.FiveByFive };
  id = monitor_id 1;
  group = group_id 0;
  code = code;
  values = values;
  count = n;
}

abbrev pub get_power : Request
get_power = asking 0x19 (replicate 7 0) 0

abbrev pub power_off : Request
power_off = asking 0x18 (1 ∷ replicate 6 0) 1

abbrev pub all20 : Request
all20 = asking 0x32 (20 ∷ 50 ∷ 20 ∷ 50 ∷ 50 ∷ 20 ∷ 3 ∷ []) 7

-- the first n bytes that are written for it
abbrev pub written_for : ℕ → Request → List ℕ
written_for n r = take n (translated_over (replicate 40 0) r)

abbrev pub Examples004 : Type 0
Examples004 =
    (written_for 9 get_power ≡ 0xA6 ∷ 0x01 ∷ 0x00 ∷ 0x00 ∷ 0x00 ∷ 0x03 ∷ 0x01 ∷ 0x19 ∷ 0xBC ∷ [])
    × (written_for 10 power_off ≡ 0xA6 ∷ 0x01 ∷ 0x00 ∷ 0x00 ∷ 0x00 ∷ 0x04 ∷ 0x01 ∷ 0x18 ∷ 0x01 ∷ 0xBB ∷ [])
    × (written_for 10 all20 ≡ 0xA6 ∷ 0x01 ∷ 0x00 ∷ 0x00 ∷ 0x00 ∷ 0x04 ∷ 0x01 ∷ 0xC0 ∷ 0x14 ∷ 0x76 ∷ [])
    × (drop 10 (written_for 20 all20) ≡ 0xA6 ∷ 0x01 ∷ 0x00 ∷ 0x00 ∷ 0x00 ∷ 0x04 ∷ 0x01 ∷ 0xC2 ∷ 0x14 ∷ 0x74 ∷ [])
    × (drop 20 (written_for 30 all20) ≡ 0xA6 ∷ 0x01 ∷ 0x00 ∷ 0x00 ∷ 0x00 ∷ 0x04 ∷ 0x01 ∷ 0xC4 ∷ 0x14 ∷ 0x72 ∷ [])
    × (heard_by get_power (9 ∷ 0x21 ∷ 0x01 ∷ 0x00 ∷ 0x00 ∷ 0x04 ∷ 0x01 ∷ 0x19 ∷ 0x02 ∷ 0x3E ∷ []) ≡ Some (Ok (Reply.Report 2)))
    × (heard_by power_off (9 ∷ 0x21 ∷ 0x01 ∷ 0x00 ∷ 0x00 ∷ 0x04 ∷ 0x01 ∷ 0x18 ∷ 0x00 ∷ 0x3D ∷ []) ≡ Some (Ok Reply.Ack))
    × (heard_by power_off (9 ∷ 0x21 ∷ 0x01 ∷ 0x00 ∷ 0x00 ∷ 0x04 ∷ 0x01 ∷ 0x00 ∷ 0x00 ∷ 0x25 ∷ []) ≡ Some wrong)
