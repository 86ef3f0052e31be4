-- How a text ends. A text is a list of bytes.
use Rattle.std.specs.Prelude.{◌≡◌, ◌≢◌, ◌⊎◌, ℕ, List, [], ◌∷◌, ◌++◌, All}
use Rattle.std.specs.Str.{IsUtf8}

-- the text ends with this one, and what stands before is text too
abbrev pub HasEnd : List ℕ → List ℕ → Type 0
HasEnd end text = (front : List ℕ) × IsUtf8 front × (text ≡ front ++ end)

-- the text is this one, or ends with a slash and this one
abbrev pub HasName : List ℕ → List ℕ → Type 0
HasName name text = (text ≡ name) ⊎ ((front : List ℕ) × IsUtf8 front × (text ≡ front ++ 47 ∷ name))

-- the text is this parent, which ends with a slash, and a name, which has none
abbrev pub HasParent : List ℕ → List ℕ → Type 0
HasParent parent text =
    ((front : List ℕ) × (parent ≡ front ++ 47 ∷ [])) × (name : List ℕ) × (text ≡ parent ++ name) × All (λ b. b ≢ 47) name
