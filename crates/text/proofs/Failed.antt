-- What had been taken where reading failed. Assumes nothing.
use Rattle.std.proofs.Common.{ℕ, ◌≤◌, ◌<◌, Option, Result, Ok, Err, OnErr, List, ◌++◌, arith, length, take, length-append, length-take-le}
use Rattle.std.specs.Io.KnownBytes.{Consumes, Keeps}
use Rattle.std.proofs.KnownBytes.{Consumes-trans, Consumes-kept}
use Rattle.text.specs.Steps.{TakesFewer}

pub on_err : {T E : Type 0} (r : Result T E) (P : Type 0) → P → OnErr r P
on_err (Ok x) P p = tt
on_err (Err e) P p = p

-- the bytes that stand at the front of the buffer, of which some were still to come
pub so_far : (old mid new : Option (List ℕ)) (n done : ℕ) (buf : List ℕ) → done < n → done ≤ length buf → Consumes old mid (take done buf) → Keeps mid new
    → TakesFewer n old new
so_far old mid new n done buf h within p q = (take done buf, omega (arith, length-take-le done buf within), Consumes-kept old mid new _ p q)

-- one byte before them
pub behind_one : (old mid new : Option (List ℕ)) (first : List ℕ) (n m : ℕ) → length first ≤ 1 → n < m → Consumes old mid first → TakesFewer n mid new
    → TakesFewer m old new
behind_one old mid new first n m one h p (bs, few, q) = (first ++ bs, omega (arith, length-append first bs), Consumes-trans old mid new first bs p q)
