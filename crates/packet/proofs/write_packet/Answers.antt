-- The head, the data and the checksum stand at the front of the output. Assumes nothing.
use mathlib.Core.Path.{◌≡◌, refl, sym, ap, ◌∙◌}
use mathlib.Core.List.{List, [], ◌∷◌, ◌++◌, append-nil}
use Prim.Native.Nat.{ℕ, suc, ◌+◌, ◌-◌, ◌≤◌, ◌<◌}
use native.Mathlib.Omega.{arith}
use borrow.Rule.Slice.PartMut.{mid_of, put_mid, same_len_mid}
use native.Mathlib.Numerals.{add-one, add-two, add-three}
use borrow.Author.Tests.{le-leb, lt-leb}
use lib.ListN.{length, drop, set, length-set, length-append, length-take, length-drop}
use lib.Seq.{take-length, drop-length, drop-cons, set_at, append_snoc}
use lib.Bits.{bit_xor}
use Rattle.xor.specs.Xor.{◌⊕◌, xor_all}
use Rattle.packet.specs.declared.Edition.{Edition}
use Rattle.packet.specs.declared.MonitorId.{MonitorId}
use Rattle.packet.specs.declared.GroupId.{GroupId}
use Rattle.packet.specs.Edition.{group_bytes, group_on, head_size}
use Rattle.packet.specs.Packet.{shortest, written_of, output_of, packet_of, most_data, longest}
use Rattle.lists.specs.Lists.{laid_over}
use Rattle.xor.proofs.Laws.{xor_assoc, ⊕_zero}
use Rattle.packet.proofs.EachEdition.{head_few}
use Rattle.packet.proofs.Packets.{group-length, packet_written_lem, packet_laid}
use Rattle.packet.proofs.write_packet.Goals as goal

-- three bytes stored
abbrev headed : List ℕ → ℕ → ℕ → ℕ → List ℕ
headed out s i g = set (set (set out 0 s) 1 i) 2 g

-- the head and the data
abbrev front : Edition → ℕ → ℕ → ℕ → List ℕ → List ℕ
front e s i g d = s ∷ i ∷ (group_bytes e g ++ d)

front_length : (e : Edition) (s i g : ℕ) (d : List ℕ) → length (front e s i g d) ≡ length d + head_size e
front_length e s i g d = simp length-append (omega (arith, group-length e g))

-- the data copied behind the head, over a third byte that is none of it
over-head : (e : Edition) (out d last : List ℕ) (s i g : ℕ) → longest ≤ length out
    → let h = headed out s i (group_on e g) in
    last ≡ d ++ drop (length d) (mid_of (head_size e) (length h - head_size e) h)
    → put_mid (head_size e) (length h - head_size e) h last ≡ front e s i g d ++ drop (length d) (drop (head_size e) h)
over-head Edition.Sicp185 (x ∷ y ∷ z ∷ rest) d last s i g room is =
    let n : suc (suc (suc (length rest))) - 2 ≡ suc (length rest) = omega arith in
    simp (is, n, drop-length, take-length, append-nil)
over-head Edition.Sicp201 (x ∷ y ∷ z ∷ rest) d last s i g room is =
    let n : suc (suc (suc (length rest))) - 3 ≡ length rest = omega arith in
    simp (is, n, drop-length, take-length, append-nil)
over-head e (x ∷ y ∷ []) d last s i g room is = absurd (omega arith)
over-head e (x ∷ []) d last s i g room is = absurd (omega arith)
over-head e [] d last s i g room is = absurd (omega arith)

copied : (e : Edition) (out d last : List ℕ) (s i g : ℕ) {head third : ℕ} → head ≡ head_size e → third ≡ group_on e g → longest ≤ length out
    → let h = headed out s i third in
    last ≡ d ++ drop (length d) (mid_of head (length h - head) h)
    → put_mid head (length h - head) h last ≡ front e s i g d ++ drop (length d) (drop (head_size e) (headed out s i (group_on e g)))
copied e out d last s i g eh et room is = rw (eh, et) (over-head e out d last s i g room (rw (eh, et) at is))

-- behind a packet the output is as before
untouched : (e : Edition) (out : List ℕ) (s i g k : ℕ) → longest ≤ length out → drop (suc k) (drop (head_size e) (headed out s i g)) ≡ drop (suc (k + head_size e)) out
untouched Edition.Sicp185 (x ∷ y ∷ z ∷ rest) s i g k room = rw add-two
untouched Edition.Sicp201 (x ∷ y ∷ z ∷ rest) s i g k room = rw add-three
untouched e (x ∷ y ∷ []) s i g k room = absurd (omega arith)
untouched e (x ∷ []) s i g k room = absurd (omega arith)
untouched e [] s i g k room = absurd (omega arith)

laid_snoc : (p out : List ℕ) (a n : ℕ) → length p ≡ n → laid_over (p ++ a ∷ []) out ≡ p ++ a ∷ drop (suc n) out
unfolding laid_over
laid_snoc p out a n e = rw (length-append p (a ∷ []), e, add-one) (append_snoc p a _)

-- the checksum stored behind the data
summed : (p t : List ℕ) (k n sum : ℕ) → k < length t → length p ≡ n → set (p ++ drop k t) n sum ≡ p ++ sum ∷ drop (suc k) t
summed p t k n sum h e = rw (drop-cons t k 0) (set_at p _ _ sum n e)

laid : (e : Edition) (out d : List ℕ) (s i g sum : ℕ) → longest ≤ length out → length d ≤ most_data e
    → set (front e s i g d ++ drop (length d) (drop (head_size e) (headed out s i (group_on e g)))) (length d + head_size e) sum
    ≡ laid_over (front e s i g d ++ sum ∷ []) out
laid e out d s i g sum room short =
    let few = head_few e in
    let t = drop (head_size e) (headed out s i (group_on e g)) in
    let there : length d < length t = simp (length-drop, length-set) (omega arith) in
    summed (front e s i g d) t (length d) _ sum there (front_length e s i g d)
    ∙ ap (λ (r : List ℕ). front e s i g d ++ sum ∷ r) (untouched e out s i (group_on e g) (length d) room)
    ∙ sym (laid_snoc (front e s i g d) out sum (length d + head_size e) (front_length e s i g d))

sum_of : (e : Edition) (s i g : ℕ) (d : List ℕ) → bit_xor (bit_xor (bit_xor s i) (group_on e g)) (xor_all d) ≡ xor_all (front e s i g d)
unfolding ◌⊕◌ xor_all
sum_of Edition.Sicp185 s i g d = ap (λ (x : ℕ). bit_xor x (xor_all d)) (⊕_zero (bit_xor s i)) ∙ xor_assoc s i (xor_all d)
sum_of Edition.Sicp201 s i g d = xor_assoc (bit_xor s i) g (xor_all d) ∙ xor_assoc s i (bit_xor g (xor_all d))

-- copying keeps the length
kept : (h d last : List ℕ) (head : ℕ) → length d + head ≤ length h → last ≡ d ++ drop (length d) (mid_of head (length h - head) h)
    → length (put_mid head (length h - head) h last) ≡ length h
kept h d last head room is = same_len_mid head (length h - head) h last (ap length is ∙ simp (length-append, length-take, length-drop) (omega arith))

-- all of a packet
whole : (e : Edition) (out d last : List ℕ) (s : ℕ) (id : MonitorId) (group : GroupId) {head third sum : ℕ}
    → head ≡ head_size e → third ≡ group_on e group.0 → sum ≡ xor_all d → s ≡ length d + head + 1 → longest ≤ length out → length d ≤ most_data e
    → let h = headed out s id.0 third in
    last ≡ d ++ drop (length d) (mid_of head (length h - head) h)
    → set (put_mid head (length h - head) h last) (length d + head) (bit_xor (bit_xor (bit_xor s id.0) third) sum) ≡ laid_over (packet_of e id group d) out
unfolding packet_of
whole e out d last s id group {head} {third} {sum} eh et ex es room short is =
    let i = id.0 in
    let g = group.0 in
    let size : s ≡ length d + shortest e = omega arith in
    ap (λ (l : List ℕ). set l (length d + head) (bit_xor (bit_xor (bit_xor s i) third) sum)) (copied e out d last s i g eh et room is)
    ∙ rw (eh, et, ex, sum_of e s i g d, size) (laid e out d (length d + shortest e) i g _ room short)

pub returns-then-out-lt-LONGEST-clause-value : goal.returns-then-out-lt-LONGEST-clause-value
unfolding written_of
returns-then-out-lt-LONGEST-clause-value c = simp (lt-leb _ _ c.if-out-lt-LONGEST.true)

pub returns-then-out-lt-LONGEST-clause-out_after : goal.returns-then-out-lt-LONGEST-clause-out_after
unfolding output_of
returns-then-out-lt-LONGEST-clause-out_after c = simp (lt-leb _ _ c.if-out-lt-LONGEST.true)

pub returns-then-head-n-clause-value : goal.returns-then-head-n-clause-value
unfolding written_of
returns-then-head-n-clause-value c =
    let a = c.args in
    let few = head_few a.edition in
    let room = le-leb longest (length a.out.now) (omega arith) in
    let long = lt-leb (length a.d.now) (most_data a.edition) (omega (arith, c.head_size-head.ensures)) in
    simp (room, long)

pub returns-then-head-n-clause-out_after : goal.returns-then-head-n-clause-out_after
unfolding output_of
returns-then-head-n-clause-out_after c =
    let a = c.args in
    let few = head_few a.edition in
    let room = le-leb longest (length a.out.now) (omega arith) in
    let long = lt-leb (length a.d.now) (most_data a.edition) (omega (arith, c.head_size-head.ensures)) in
    simp (room, long)

pub returns-clause-value : goal.returns-clause-value
returns-clause-value c =
    let a = c.args in
    let few = head_few a.edition in
    let head = c.head_size-head.ensures in
    let room : longest ≤ length a.out.now = omega arith in
    let short : length a.d.now ≤ most_data a.edition = omega arith in
    let size : length a.d.now + head_size a.edition + 1 ≡ length a.d.now + shortest a.edition = omega arith in
    rw (head, size) (sym (packet_written_lem a.edition a.out.now a.id a.group a.d.now room short))

pub returns-clause-out_after : goal.returns-clause-out_after
returns-clause-out_after c =
    let a = c.args in
    let few = head_few a.edition in
    let head = c.head_size-head.ensures in
    let room : longest ≤ length a.out.now = omega arith in
    let short : length a.d.now ≤ most_data a.edition = omega arith in
    whole a.edition a.out.now a.d.now _ _ a.id a.group head c.group_on-third.ensures c.xor_all.ensures refl room short c.copy.ensures.laid
    ∙ sym (packet_laid a.edition a.out.now a.id a.group a.d.now room short)
