-- When the nodes of an expression stand for a term.
use Rattle.std.proofs.Common.{◌≡◌, ◌↔◌, ◌≤◌, ℕ, zero, suc, Bool, true, false, IsTrue, List, length, refl, sym, ap, arith}
use Rattle.std.proofs.lemmas.Bool.{true≢false}
use Rattle.std.specs.Prelude.{◌+◌, ◌&&◌, max, slice_index_or}
use Rattle.sqlite_value.specs.declared.value.Value.TheVariants.{Null}
use Rattle.sqlite_sql.specs.declared.ops.BinaryOp.{BinaryOp}
use Rattle.sqlite_sql.specs.Term.{Term, lit, col, op1, op2, case}
use Rattle.sqlite_schema.specs.Code.{op_term, term_in, term_to}
use Rattle.sqlite_schema.specs.declared.code.Op.{Op}
use Rattle.sqlite_schema.specs.declared.code.Op.TheVariants.{Literal, Column, Unary, Binary, Case}

-- how deep a term is, where a literal has no depth
abbrev depth_of : Term → ℕ
depth_of (lit v) = 0
depth_of (col slot at) = 1
depth_of (op1 op a) = 1 + depth_of a
depth_of (op2 op a b) = 1 + max (depth_of a) (depth_of b)
depth_of (case t a b) = 1 + max (depth_of t) (max (depth_of a) (depth_of b))

-- the operator of a term, and its two operands
abbrev operator : BinaryOp → Term → BinaryOp
operator other (op2 op a b) = op
operator other (lit v) = other
operator other (col slot at) = other
operator other (op1 op a) = other
operator other (case t a b) = other

abbrev before : Term → Term
before (op2 op a b) = a
before (lit v) = lit v
before (col slot at) = lit Null
before (op1 op a) = a
before (case t a b) = a

abbrev behind : Term → Term
behind (op2 op a b) = b
behind (lit v) = lit v
behind (col slot at) = lit Null
behind (op1 op a) = a
behind (case t a b) = b

deeper : (below : ℕ → Term) (d : ℕ) (op : Op) → ((at : ℕ) → depth_of (below at) ≤ d) → depth_of (op_term below op) ≤ suc d
deeper below d (Literal v) h = omega arith
deeper below d (Column slot at) h = omega arith
deeper below d (Unary op a) h = omega (arith, h a)
deeper below d (Binary op a b) h = omega (arith, h a, h b)
deeper below d (Case t a b) h = omega (arith, h t, h a, h b)

-- what is read to a depth is not deeper
pub depth-term_to : (nodes : List Op) (d at : ℕ) → depth_of (term_to nodes d at) ≤ d
depth-term_to nodes zero at = omega arith
depth-term_to nodes (suc d) at = deeper (term_to nodes d) d (slice_index_or nodes at (Literal Null)) (depth-term_to nodes d)

pub all_three : (a b c : Bool) → IsTrue ((a && b) && c) → IsTrue a × IsTrue b × IsTrue c
all_three true true true h = (refl, refl, refl)
all_three true true false h = absurd (true≢false (sym h))
all_three true false c h = absurd (true≢false (sym h))
all_three false b c h = absurd (true≢false (sym h))

pub of_three : (a b c : Bool) → IsTrue a → IsTrue b → IsTrue c → IsTrue ((a && b) && c)
of_three a b c x y z = rw (x, y, z) refl

pub both : (a b : Bool) → IsTrue (a && b) → IsTrue a × IsTrue b
both true true h = (refl, refl)
both true false h = absurd (true≢false (sym h))
both false b h = absurd (true≢false (sym h))

-- a node of an operator stands for a term where all three of its parts do
pub stands-op2 : (nodes : List Op) (d at left right : ℕ) (op wanted : BinaryOp) (first second : Term) (a b c : Bool)
    → slice_index_or nodes at (Literal Null) ≡ Binary op left right → (IsTrue a ↔ (op ≡ wanted))
    → (IsTrue b ↔ (term_to nodes d left ≡ first)) → (IsTrue c ↔ (term_to nodes d right ≡ second))
    → IsTrue ((a && b) && c) ↔ (term_to nodes (suc d) at ≡ op2 wanted first second)
stands-op2 nodes d at left right op wanted first second a b c is x y z = rw is (
  (λ h. let t = all_three a b c h in rw (x.0 t.0, y.0 t.1, z.0 t.2) refl),
  (λ same. of_three a b c (x.1 (ap (operator op) same)) (y.1 (ap before same)) (z.1 (ap behind same))),
)

-- what holds of all numbers from two on, or from three on
pub from-two : (P : ℕ → Type 0) → ((d : ℕ) → P (suc (suc d))) → (n : ℕ) → 2 ≤ n → P n
from-two P f zero h = absurd (omega (arith, h))
from-two P f (suc zero) h = absurd (omega (arith, h))
from-two P f (suc (suc d)) h = f d

pub from-three : (P : ℕ → Type 0) → ((d : ℕ) → P (suc (suc (suc d)))) → (n : ℕ) → 3 ≤ n → P n
from-three P f zero h = absurd (omega (arith, h))
from-three P f (suc zero) h = absurd (omega (arith, h))
from-three P f (suc (suc zero)) h = absurd (omega (arith, h))
from-three P f (suc (suc (suc d))) h = f d

-- the nodes stand for a term, if they are read as deep as this
abbrev pub Stands : List Op → ℕ → Term → Bool → ℕ → Type 0
Stands nodes at wanted found depth = IsTrue found ↔ (term_to nodes depth at ≡ wanted)

-- nodes that stand for a term are as many as it is deep
pub stands-deep : (nodes : List Op) (at least : ℕ) (wanted : Term) (long found : Bool) → least ≡ depth_of wanted → (IsTrue long ↔ (least ≤ length nodes))
    → ((depth : ℕ) → least ≤ depth → Stands nodes at wanted found depth) → IsTrue (long && found) ↔ (term_in nodes at ≡ wanted)
stands-deep nodes at least wanted long found deep length-is stands = (
  (λ h. let t = both long found h in (stands (length nodes) (length-is.0 t.0)).0 t.1),
  (λ same. let fits : least ≤ length nodes = omega (arith, deep, ap depth_of same, depth-term_to nodes (length nodes) at) in
      rw (length-is.1 fits, (stands (length nodes) fits).1 same) refl),
)
