-- The definitions of looks: what the commands do that change no byte of the image.
pub mod Looks
