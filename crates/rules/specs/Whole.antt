-- A whole pack numbered in one call (document 02, L1), as a function of the lent bytes and the lent list.
--
--   Gathered A           the values of a list of answers, or the index of the first that is refused; gathered xs: of the answers xs
--   Indexed A            a value of A, a refusal number, or refusal 5 with the index of its edge
--   numbers_in p          the numbers of the edges of a pack, each as it is asked alone; or refusal 8, 1, 2, 3 or 4
--   Listed, listed       what is answered, and the list afterwards
--   numbers_answer p list    the numbers of the pack p, written to the list
--   alone_answer p i      what edge i of the pack p gives when asked alone
--   AsAlone, AtFault    what document 02 says of an accepted call, and of one that is refused with an index
use Rattle.std.specs.Prelude.{◌≡◌, List, [], ◌∷◌, ◌++◌, map, ℕ, suc, ◌≤◌, ◌<◌, leb, length, get_or, drop}
use Rattle.howmany.specs.Choose.{pick}
use Rattle.rules.specs.Refusals.{Answer, Refusal, refusal_number, and_then}
use Rattle.rules.specs.Refusals.Refusal.{not-an-edge, room}
use Rattle.rules.specs.Refusals.Answer.{accepted, refused}
use Rattle.rules.specs.Answers.{known_job, number_answer}
use Rattle.rules.specs.Packs.{count_in, block_in, edge_in, pack_of}

pub data Gathered (A : Type 0) : Type 0 where
  all : List A → Gathered A
  fault : ℕ → Gathered A

abbrev pub more : {A : Type 0} → A → Gathered A → Gathered A
more a (all vs) = all (a ∷ vs)
more a (fault i) = fault (suc i)

-- "If any edge is refused, the call gives the first such index"
unfoldable pub gathered : {A : Type 0} → List (Answer A) → Gathered A
gathered [] = all []
gathered (accepted a ∷ xs) = more a (gathered xs)
gathered (refused r ∷ xs) = fault 0

pub data Indexed (A : Type 0) : Type 0 where
  value : A → Indexed A
  refusal : ℕ → Indexed A
  bad_edge : ℕ → Indexed A

-- "Refusals: as for packs": 8, then 1 to 4, then 5
unfoldable pub numbers_in : List ℕ → Answer (Gathered ℕ)
unfolding pack_of known_job number_answer gathered
numbers_in p =
    and_then (pack_of p) (λ k. and_then (known_job k.block) (λ J. accepted (gathered (map (number_answer k.block) k.edges))))

pub record Listed : Type 0 where
  pub answer : Indexed ℕ
  pub list : List ℕ

-- "entries past the count stay as they were"; "no entry is written" where an edge is refused; "then 7 for a short list"
unfoldable pub listed : Answer (Gathered ℕ) → List ℕ → Listed
unfolding refusal_number
listed (accepted (all ns)) list =
    pick (leb (length ns) (length list))
    (record { answer = value (length ns); list = ns ++ drop (length ns) list })
    (record { answer = refusal (refusal_number room); list = list })
listed (accepted (fault i)) list = record { answer = bad_edge i; list = list }
listed (refused r) list = record { answer = refusal (refusal_number r); list = list }

-- "one call from a pack to a lent list of 64-bit numbers"
unfoldable pub numbers_answer : List ℕ → List ℕ → Listed
unfolding numbers_in listed
numbers_answer p list = listed (numbers_in p) list

-- ---- what document 02 says of it

unfoldable pub alone_answer : List ℕ → ℕ → Answer ℕ
unfolding number_answer edge_in
alone_answer p i = number_answer (block_in p) (edge_in p i)

-- "Entry i must equal what edge i gives when asked alone; entries past the count stay as they were."
pub record AsAlone (p list : List ℕ) (c : ℕ) (after : List ℕ) : Type 0 where
  pub many : c ≡ count_in p
  pub room : c ≤ length list
  pub as_long : length after ≡ length list
  pub entry : (i : ℕ) → i < c → alone_answer p i ≡ accepted (get_or after i 0)
  pub past : (i : ℕ) → c ≤ i → get_or after i 0 ≡ get_or list i 0

-- "If any edge is refused, the call gives the first such index and no entry is written."
pub record AtFault (p list : List ℕ) (i : ℕ) (after : List ℕ) : Type 0 where
  pub below : i < count_in p
  pub wrong : alone_answer p i ≡ refused not-an-edge
  pub before : (j : ℕ) → j < i → (n : ℕ) × (alone_answer p j ≡ accepted n)
  pub as_it_was : after ≡ list
