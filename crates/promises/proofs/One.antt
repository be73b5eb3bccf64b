-- Two results that meet one contract are equal. Assumes nothing.
--
--   equal_one                               a contract that is an equation: `Job::of`, `job::family_of`, `job::is_plain`, `is_square`, `is_paired`, `is_fenced`,
--                                           `letters::ordinal_of`, `lines::has_room`, `lines::all_below`, `plains::count`, `count` of `calls` and of the crates of some families,
--                                           `width` and `number` of `calls`, `walks::walk` and `walk_all`, `questions::compare` and `dip`, `pack::part` and `repeat`,
--                                           `pack::edge_refusal`, `questions::earlier_refusal`
--   built-one                               a write: its answer and the output's bytes; `calls::build`, `packing::write`, `listing::write` and `job::put`
--   wrote_one, building_one                 `build_all` of `calls`, and of the crates of some families: the answer, the steps' bytes and the ends
--   ranked-one, numbering-one               `number_all`, likewise: the answer and the numbers
--   refusal_one, listed-one                 two refusals of one number; `pack::number_all`: the answer and the list
--   Alike, part-one, edge-one, handed_one   what is handed back: `lines::part`, `pack::edge` and `questions::earlier` point to one place, and hold the same bytes
--   seen_one, seen_write_one, seen-dip-one, seen-second-one, seen-part-one, seen-repeat-one, seen-numbers-one    the calls for C: the result and every lent byte
use mathlib.Core.Path.{◌≡◌, refl, sym, ap, ◌∙◌}
use mathlib.Core.Bool.{Bool, true, false}
use mathlib.Core.List.{List, [], ◌∷◌}
use mathlib.Core.Option as math
use Prim.Native.Nat.{ℕ, ◌-◌}
use lib.ListN.{get_or}
use denote.Ref.{Bor}
use Rattle.std.specs.Prelude.{Option, Result, Ok, Err}
use Rattle.rules.specs.Refusals.{Answer}
use Rattle.rules.specs.Refusals.Answer.{accepted, refused}
use Rattle.rules.specs.Answers.{Written}
use Rattle.rules.specs.Questions.{Part, Twice}
use Rattle.rules.specs.Whole.{Indexed, Listed}
use Rattle.rules.specs.Whole.Indexed.{value as counted, refusal as refused-with, bad_edge}
use Rattle.job.specs.declared.Refusal.{Refusal}
use Rattle.job.specs.declared.Refusal.TheVariants.{Form, Size, Twin, Over, NotEdge, Beyond, Room, BadPack, NoSuchEdge, Many, Kind}
use Rattle.job.specs.Parts.{PartOf}
use Rattle.job.specs.Replies.{number_of, BuiltAs}
use Rattle.lines.specs.declared.Unanswered.{Unanswered}
use Rattle.lines.specs.Lines.{Lines, WroteAs}
use Rattle.lines.specs.Ranks.{Ranks, RanksAs}
use Rattle.lines.specs.Mine.{RanksFor, LinesFor}
use Rattle.questions.specs.Replies.{Handed}
use Rattle.pack.specs.declared.Fault.{Fault}
use Rattle.pack.specs.declared.Fault.TheVariants.{NotEdge as BadEdge, Refused}
use Rattle.pack.specs.Replies.{numbers_says}
use Rattle.pack.specs.Whole.{ListedAs}
use Rattle.pack.specs.Parts.{EdgeIs}
use Rattle.edges.specs.ResultWords.{SeenNumbers}
use Rattle.edges.specs.Seen.{Seen, SeenWrite, SeenDip, SeenSecond, SeenPart, SeenRepeat}

pub built-one : (w : Written) (r s : Result ℕ Refusal) (after next : List ℕ) → BuiltAs w r after → BuiltAs w s next → (r ≡ s) × (after ≡ next)
built-one w r s after next p q = (p.says ∙ sym q.says, p.output ∙ sym q.output)

pub wrote_one : (w : Lines) (r s : Result ℕ Unanswered) (a b c d : List ℕ) → WroteAs w r a b → WroteAs w s c d → (r ≡ s) × (a ≡ c) × (b ≡ d)
wrote_one w r s a b c d p q = (p.says ∙ sym q.says, p.bytes ∙ sym q.bytes, p.places ∙ sym q.places)

pub building_one : (mine : Bool) (w : Lines) (r s : Option (Result ℕ Unanswered)) (steps ends a b c d : List ℕ) → LinesFor mine w r steps ends a b → LinesFor mine w s steps ends c d
    → (r ≡ s) × (a ≡ c) × (b ≡ d)
building_one mine w r s steps ends a b c d p q = (p.says ∙ sym q.says, p.bytes ∙ sym q.bytes, p.places ∙ sym q.places)

pub ranked-one : (w : Ranks) (r s : Result ℕ Unanswered) (a c : List ℕ) → RanksAs w r a → RanksAs w s c → (r ≡ s) × (a ≡ c)
ranked-one w r s a c p q = (p.says ∙ sym q.says, p.numbers_are ∙ sym q.numbers_are)

pub numbering-one : (mine : Bool) (w : Ranks) (r s : Option (Result ℕ Unanswered)) (before a c : List ℕ) → RanksFor mine w r before a → RanksFor mine w s before c → (r ≡ s) × (a ≡ c)
numbering-one mine w r s before a c p q = (p.says ∙ sym q.says, p.numbers_are ∙ sym q.numbers_are)

pub equal_one : {A : Type 0} (x r s : A) → r ≡ x → s ≡ x → r ≡ s
equal_one x r s p q = p ∙ sym q

-- the name of a number
name_at : ℕ → Refusal
name_at n = get_or (Form ∷ Size ∷ Twin ∷ Over ∷ NotEdge ∷ Beyond ∷ Room ∷ BadPack ∷ NoSuchEdge ∷ Many ∷ Kind ∷ []) (n - 1) Form

name_back : (r : Refusal) → name_at (number_of r) ≡ r
unfolding name_at
name_back Form = refl
name_back Size = refl
name_back Twin = refl
name_back Over = refl
name_back NotEdge = refl
name_back Beyond = refl
name_back Room = refl
name_back BadPack = refl
name_back NoSuchEdge = refl
name_back Many = refl
name_back Kind = refl

-- two refusals of one number are one
pub refusal_one : (r s : Refusal) → number_of r ≡ number_of s → r ≡ s
refusal_one r s e = sym (name_back r) ∙ ap name_at e ∙ name_back s

pub listed-one : (w : Listed) (r s : Result ℕ Fault) (a c : List ℕ) → ListedAs w r a → ListedAs w s c → (r ≡ s) × (a ≡ c)
listed-one w r s a c p q = (sym (same r) ∙ ap back (p.says ∙ sym q.says) ∙ same s, p.list_is ∙ sym q.list_is)
  where
    back : Indexed ℕ → Result ℕ Fault
    back (counted n) = Ok n
    back (refused-with k) = Err (Refused (name_at k))
    back (bad_edge i) = Err (BadEdge i)

    same : (r : Result ℕ Fault) → back (numbers_says r) ≡ r
    same (Ok n) = refl
    same (Err (BadEdge i)) = refl
    same (Err (Refused r)) = ap (λ (x : Refusal). (let y : Result ℕ Fault = Err (Refused x) in y)) (name_back r)

-- what can be seen of a reference: where it points, and the bytes there
pub record Alike (r s : Bor (List ℕ)) : Type 0 where
  pub place : r.ref_ptr ≡ s.ref_ptr
  pub bytes : r.now ≡ s.now

alike : (r s : Bor (List ℕ)) → r ≡ s → Alike r s
alike r s e = record { place = ap (λ (x : Bor (List ℕ)). x.ref_ptr) e; bytes = ap (λ (x : Bor (List ℕ)). x.now) e }

pub part-one : (whole : Bor (List ℕ)) (a e : ℕ) (r s : Bor (List ℕ)) → PartOf whole a e r → PartOf whole a e s → Alike r s
part-one whole a e r s p q = record {
  place = λ i. ((p.block ∙ sym q.block) i, (p.place ∙ sym q.place) i);
  bytes = p.bytes ∙ sym q.bytes;
}

pub edge-one : (x : Answer Part) (pack r s : Bor (List ℕ)) → EdgeIs x pack r → EdgeIs x pack s → Alike r s
edge-one (accepted w) pack r s p q = part-one pack w.start w.end r s p q
edge-one (refused k) pack r s p q = part-one pack 0 0 r s p q

pub handed_one : (x : Answer Bool) (first second r s : Bor (List ℕ)) → Handed x first second r → Handed x first second s → Alike r s
handed_one (accepted false) first second r s p q = alike r s (p ∙ sym q)
handed_one (accepted true) first second r s p q = alike r s (p ∙ sym q)
handed_one (refused k) first second r s p q = part-one first 0 0 r s p q

pub seen_one : (a : Answer ℕ) (before r s after next : ℕ) → Seen a r before after → Seen a s before next → (r ≡ s) × (after ≡ next)
seen_one a before r s after next p q = (p.result ∙ sym q.result, p.number ∙ sym q.number)

pub seen_write_one : (w : Written) (before r s after next : ℕ) (output rest : List ℕ) → SeenWrite w r before after output → SeenWrite w s before next rest
    → (r ≡ s) × (after ≡ next) × (output ≡ rest)
seen_write_one w before r s after next output rest p q =
    let t = seen_one w.answer before r s after next p.seen q.seen in (t.0, t.1, p.bytes ∙ sym q.bytes)

pub seen-dip-one : (a : Answer (math.Option ℕ)) (d p r s d1 p1 d2 p2 : ℕ) → SeenDip a r d p d1 p1 → SeenDip a s d p d2 p2 → (r ≡ s) × (d1 ≡ d2) × (p1 ≡ p2)
seen-dip-one a d p r s d1 p1 d2 p2 x y = (x.result ∙ sym y.result, x.yes ∙ sym y.yes, x.where_first ∙ sym y.where_first)

pub seen-second-one : (a : Answer Bool) (before r s b1 b2 : ℕ) → SeenSecond a r before b1 → SeenSecond a s before b2 → (r ≡ s) × (b1 ≡ b2)
seen-second-one a before r s b1 b2 x y = (x.result ∙ sym y.result, x.which ∙ sym y.which)

pub seen-part-one : (a : Answer Part) (b e r s b1 e1 b2 e2 : ℕ) → SeenPart a r b e b1 e1 → SeenPart a s b e b2 e2 → (r ≡ s) × (b1 ≡ b2) × (e1 ≡ e2)
seen-part-one a b e r s b1 e1 b2 e2 x y = (x.result ∙ sym y.result, x.begins ∙ sym y.begins, x.ends ∙ sym y.ends)

pub seen-repeat-one : (a : Answer (math.Option Twice)) (f l e r s f1 l1 e1 f2 l2 e2 : ℕ) → SeenRepeat a r f l e f1 l1 e1 → SeenRepeat a s f l e f2 l2 e2
    → (r ≡ s) × (f1 ≡ f2) × (l1 ≡ l2) × (e1 ≡ e2)
seen-repeat-one a f l e r s f1 l1 e1 f2 l2 e2 x y =
    (x.result ∙ sym y.result, x.some_repeat ∙ sym y.some_repeat, x.second ∙ sym y.second, x.first ∙ sym y.first)

pub seen-numbers-one : (w : Listed) (before r s after next : ℕ) (numbers numbers-next : List ℕ) → SeenNumbers w r before after numbers → SeenNumbers w s before next numbers-next
    → (r ≡ s) × (numbers ≡ numbers-next) × (after ≡ next)
seen-numbers-one w before r s after next numbers numbers-next x y =
    (x.result ∙ sym y.result, x.entries ∙ sym y.entries, x.count ∙ sym y.count)
