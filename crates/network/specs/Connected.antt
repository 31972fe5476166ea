-- What it means that running lanes connect all depots, and the test by labels that the code makes.
use Rattle.std.specs.Prelude.{◌≡◌, ℕ, ◌-◌, ◌<◌, Bool, cond, ◌⊎◌, List, [], ◌∷◌, map, ◌==◌, nat_le, slice_index}
use Rattle.network.specs.declared.lanes.Lane.{Lane}

-- the lane has these two ends, in either order
abbrev pub Joins : Lane → ℕ → ℕ → Type 0
Joins l a b = ((l.left ≡ a) × (l.right ≡ b)) ⊎ ((l.left ≡ b) × (l.right ≡ a))

-- some lane of the list joins the two depots
abbrev pub Adjacent : List Lane → ℕ → ℕ → Type 0
Adjacent [] a b = ⊥
Adjacent (l ∷ ls) a b = Joins l a b ⊎ Adjacent ls a b

-- a way from one depot to another along lanes of the list
pub data Way (ls : List Lane) : ℕ → ℕ → Type 0 where
  here : {a b : ℕ} → a ≡ b → Way ls a b
  along : {a b c : ℕ} → Adjacent ls a b → Way ls b c → Way ls a c

-- every depot is reached from every other
abbrev pub Connected : ℕ → List Lane → Type 0
Connected depots ls = (a b : ℕ) → a < depots → b < depots → Way ls a b

-- each lane has both ends among the depots
abbrev pub EndsWithin : ℕ → List Lane → Type 0
EndsWithin depots [] = Unit {0}
EndsWithin depots (l ∷ ls) = (l.left < depots) × (l.right < depots) × EndsWithin depots ls

-- ---- the test by labels: each depot has a label, and depots in one part have the same one

-- the label of a lane's end
abbrev pub label_at : List ℕ → ℕ → ℕ
label_at labels depot = slice_index labels depot

-- the label `gone` becomes the label `kept`
abbrev pub relabelled : ℕ → ℕ → ℕ → ℕ
relabelled kept gone label = cond (label == gone) kept label

abbrev pub meets : List ℕ → Lane → Bool
meets labels l = label_at labels l.left == label_at labels l.right

-- the label of the right end becomes that of the left
abbrev pub merged : List ℕ → Lane → List ℕ
merged labels l = map (relabelled (label_at labels l.left) (label_at labels l.right)) labels

-- the labels once the lane has made its two ends one part
abbrev pub labels_after : List ℕ → Lane → List ℕ
labels_after labels l = cond (meets labels l) labels (merged labels l)

-- the number of parts once the lane has made its two ends one part
abbrev pub parts_after : List ℕ → ℕ → Lane → ℕ
parts_after labels parts l = cond (meets labels l) parts (parts - 1)

-- the lanes of the list leave one part
abbrev pub connects_from : List ℕ → ℕ → List Lane → Bool
connects_from labels parts [] = nat_le parts 1
connects_from labels parts (l ∷ ls) = connects_from (labels_after labels l) (parts_after labels parts l) ls

-- each depot is a part of its own, under its own number
abbrev pub own_labels : List ℕ
own_labels = 0 ∷ 1 ∷ 2 ∷ 3 ∷ 4 ∷ 5 ∷ 6 ∷ 7 ∷ 8 ∷ 9 ∷ []

abbrev pub connects : ℕ → List Lane → Bool
connects depots ls = connects_from own_labels depots ls
