-- From the count of a block to its job, its edges and its listing. Assumes nothing.
--
--   counted                 the job that has an accepted count
--   block-long              a block with a count has all its bytes
--   Listed, listed          the edges of the numbers from 0 up, lined up to be printed
--   listing_is, listing_refused    the listing of an accepted and of a refused block
use mathlib.Core.Path.{◌≡◌, refl, sym, ap, ap₂, ◌∙◌}
use mathlib.Core.Bool.{Bool}
use mathlib.Core.List.{List, [], ◌++◌, append_assoc, map}
use Prim.Native.Nat.{ℕ, ◌≤◌, ◌<◌, min}
use native.Mathlib.Nat.{min-le_left, min-le_right}
use native.Mathlib.Omega.{arith}
use lib.ListN.{length, get_or, take, drop, length-append, length-map}
use lib.Seq.{length-take-le, take-append_seam, get_or-take}
use Rattle.std.specs.Prelude.{Result, Err}
use Rattle.std.proofs.lemmas.List.{get_or-map}
use Rattle.howmany.proofs.Choices.{is_true}
use Rattle.rules.specs.Jobs.{Job}
use Rattle.rules.specs.Counts.{count_of}
use Rattle.rules.specs.Numbers.{edge_of}
use Rattle.rules.specs.Refusals as rules
use Rattle.rules.specs.Refusals.{Answer, check, refusal_number}
use Rattle.rules.specs.Refusals.Refusal.{form, beyond}
use Rattle.rules.specs.Refusals.Answer.{accepted, refused}
use Rattle.rules.specs.Blocks.{block_length, formed, job_answer}
use Rattle.rules.specs.Answers.{known_job, count_answer}
use Rattle.rules.specs.Questions.{edges_answer}
use Rattle.rules.proofs.Answering.{count-known, count-told, edges-known}
use Rattle.rules.proofs.Demand3.{passed}
use Rattle.rules.proofs.Hence.{known-job}
use Rattle.job.specs.declared.Refusal.{Refusal}
use Rattle.job.specs.Replies.{number_of, reply}
use Rattle.job.proofs.Says.{value_not, refusal-one, named_number}
use Rattle.job.proofs.Makes.{whole_of}
use Rattle.lines.specs.declared.Unanswered.{Unanswered}
use Rattle.lines.specs.Lines.{ends_from, lined, lines, LinedAs, narrowed, WroteAs}
use Rattle.rules.proofs.Belows.{below_all}
use Rattle.lines.proofs.Lining.{length-ends, lines-built}
use Rattle.listing.specs.Listing.{header_text, lines_text, refused_text, answer_text, listing_text}
use Rattle.listing.specs.Texts.{Room, edge_at, Roomy, LinesOf}
use Rattle.listing.proofs.Cutting.{cut_of, edge-of, lines_same}

-- the job of a block whose count is c
pub record Counted (b : List ℕ) (c : ℕ) : Type 0 where
  pub J : Job
  pub job : known_job b ≡ accepted J
  pub count : count_of J ≡ c

module _ (b : List ℕ) where
  pub counted : (c : ℕ) → count_answer b ≡ accepted c → Counted b c
  counted c e = go (known_job b) refl
    where
      go : (a : Answer Job) → known_job b ≡ a → Counted b c
      go (accepted J) q = let w : count_answer b ≡ accepted (count_of J) = count-known b J q in record { J = J; job = q; count = cc }
      go (refused r) q = let w : count_answer b ≡ refused r = count-told b r q in let z : ◌≡◌ {A = ℕ} 0 1 = cc in absurd (omega arith)

  pub block-long : (c : ℕ) → count_answer b ≡ accepted c → length b ≡ block_length
  unfolding job_answer
  block-long c e =
      let k = counted c e in
      whole_of b (is_true (formed b) (passed (formed b) form _ k.J (known-job b k.J k.job).job).0)

  listing_of : (J : Job) → known_job b ≡ accepted J → listing_text b ≡ header_text b (count_of J) ++ lines_text (edge_of J) (min (count_of J) 1000)
  unfolding listing_text answer_text
  listing_of J e = rw e refl

  listing_told : (r : rules.Refusal) → known_job b ≡ refused r → listing_text b ≡ refused_text (refusal_number r)
  unfolding listing_text answer_text
  listing_told r e = rw e refl

  pub listing_refused : (k : Refusal) → Err k ≡ reply (count_answer b) → listing_text b ≡ refused_text (number_of k)
  listing_refused k e = go (known_job b) refl
    where
      go : (a : Answer Job) → known_job b ≡ a → listing_text b ≡ refused_text (number_of k)
      go (accepted J) q = absurd (value_not (sym (e ∙ ap reply (count-known b J q))))
      go (refused r) q = listing_told r q ∙ ap refused_text (sym (ap number_of (refusal-one (e ∙ ap reply (count-told b r q))) ∙ named_number r))

  pub listing_is : (c : ℕ) (old mid new : List ℕ) → count_answer b ≡ accepted c → mid ≡ old ++ header_text b c → LinesOf b mid new → new ≡ old ++ listing_text b
  listing_is c old mid new e h l =
      let k = counted c e in
      simp (l.lines k.J k.job, h, listing_of k.J k.job, k.count, append_assoc)

-- what is lined up are the first edges of the block: they can be printed, what is printed are the lines, and no refusal is told
pub record Listed (b : List ℕ) (many : ℕ) (r : Result ℕ Unanswered) (s t : List ℕ) : Type 0 where
  pub long : many ≤ length t
  pub ready : (text : List ℕ) → length s ≡ 128000 → Room text 151000 → Roomy s (take many t) text
  pub told : (old new : List ℕ) → new ≡ old ++ lines_text (edge_at s (take many t)) (length (take many t)) → LinesOf b old new
  pub never : (x : Unanswered) → r ≡ Err x → ⊥

module _ (b : List ℕ) (c : ℕ) (known : count_answer b ≡ accepted c) (numbers : List ℕ) (up : (i : ℕ) → i < 1000 → get_or numbers i 0 ≡ i) (thousand : length numbers ≡ 1000) (many : ℕ) (m : many ≡ min c 1000) where
  abbrev ns : List ℕ
  ns = take many numbers

  abbrev job_of : Job
  job_of = (counted b c known).J

  abbrev edges : List (List ℕ)
  edges = map (edge_of job_of) ns

  many-most : many ≤ 1000
  many-most = omega (arith, min-le_right c 1000)

  ns-long : length ns ≡ many
  ns-long = length-take-le many numbers (omega (arith, many-most))

  ns-at : (i : ℕ) → i < many → get_or ns i 0 ≡ i
  ns-at i l = get_or-take many numbers i 0 l ∙ up i (omega (arith, many-most))

  edges-long : length edges ≡ many
  edges-long = length-map ns (edge_of job_of) ∙ ns-long

  edges_are : edges_answer b ns ≡ accepted edges
  edges_are =
      edges-known b ns job_of (counted b c known).job
      ∙ ap (λ (t : Bool). check t beyond (accepted edges))
      (below_all (count_of job_of) ns (λ i l. omega (arith, ns-long, ns-at i (omega (arith, ns-long)), (counted b c known).count, min-le_left c 1000)))

  module _ (steps₀ ends₀ : List ℕ) (for_steps : length steps₀ ≡ 128000) (for_ends : length ends₀ ≡ 1000) (r : Result ℕ Unanswered) (s t : List ℕ)
      (w : WroteAs (lines (edges_answer b ns) ns steps₀ ends₀) r s t) where
    lined-of : LinedAs (lined (accepted edges) steps₀ ends₀) (narrowed r) s t
    lined-of =
        rw edges_are at
        (lines-built (edges_answer b ns) ns steps₀ ends₀ r (narrowed r) s t
        (record { for_steps = omega (arith, ns-long, many-most); for_ends = omega (arith, ns-long, many-most) }) refl w)

    ends-are : take many t ≡ ends_from 0 edges
    unfolding lined
    ends-are =
        let q : length (ends_from 0 edges) ≡ many = length-ends 0 edges ∙ edges-long in
        let rest = drop (length edges) ends₀ in
        ap (take many) lined-of.places ∙ ap (λ (k : ℕ). take k (ends_from 0 edges ++ rest)) (sym q) ∙ take-append_seam (ends_from 0 edges) rest

    ends-long : length (take many t) ≡ many
    ends-long = ap length ends-are ∙ length-ends 0 edges ∙ edges-long

    edges_at : (i : ℕ) → i < many → edge_at s (take many t) i ≡ edge_of job_of i
    unfolding lined
    edges_at i l =
        edge-of edges _ s (take many t) lined-of.bytes ends-are i (omega (arith, edges-long))
        ∙ get_or-map (edge_of job_of) ns i 0 [] (omega (arith, ns-long)) ∙ ap (edge_of job_of) (ns-at i l)

    pub listed : Listed b many r s t
    unfolding lined
    listed = record {
      long = omega (arith, ap length lined-of.places, length-append (ends_from 0 edges) (drop (length edges) ends₀), length-ends 0 edges, edges-long);
      ready = λ text q l. record {
        cut = cut_of edges _ s (take many t) lined-of.bytes ends-are;
        room = omega (arith, many-most, ends-long);
      };
      told = λ old new a. record {
        lines = λ J q.
            let k = counted b c known in
            let same : J ≡ k.J = let z = k.job in cc in
            let lines : lines_text (edge_at s (take many t)) (length (take many t)) ≡ lines_text (edge_of J) (min (count_of J) 1000) =
            ap (lines_text (edge_at s (take many t))) ends-long
            ∙ lines_same (edge_at s (take many t)) (edge_of job_of) many edges_at
            ∙ ap₂ (λ (K : Job) (x : ℕ). lines_text (edge_of K) x) (sym same) (m ∙ ap (λ (x : ℕ). min x 1000) (sym k.count ∙ ap count_of (sym same))) in
            a ∙ ap (λ (z : List ℕ). old ++ z) lines;
      };
      never = λ x q. value_not (sym lined-of.says ∙ ap narrowed q);
    }
