-- Digest: the digits that tell which image it is.
use Rattle.std.specs.Prelude.{ℕ, List}
use Rattle.hex.specs.Hex.{encode_lower}
use Rattle.sha2.specs.Sha256.{sha256}
use Rattle.op_graph.specs.Lists.{Lists}
use Rattle.image_file.specs.Image.{image_of}

-- the digits of SHA-256 (FIPS 180-4) of the bytes of the image of this graph with this seed and step
abbrev pub digest_of : Lists → ℕ → ℕ → List ℕ
digest_of g seed step = encode_lower (sha256 (image_of g seed step))
