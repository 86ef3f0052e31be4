-- Which bytes may follow one another in a path, on small paths.
use Rattle.std.proofs.Common.{◌≡◌, true, false, codes, refl}
use Rattle.ignore_query.specs.Plain.{all_follow, last_of}

-- no component of `a/b.c` is empty or begins with a dot
plain : all_follow 47 (codes "a/b.c") ≡ true
plain = refl

-- the second of `a/.b` does, and that of `a//b` is empty
dotted : all_follow 47 (codes "a/.b") ≡ false
dotted = refl

doubled : all_follow 47 (codes "a//b") ≡ false
doubled = refl

-- the last byte of `a/` is the slash, after which the last component is empty
last : last_of 47 (codes "a/") ≡ 47
last = refl
