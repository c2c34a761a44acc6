mod Gapless
mod Issuing
mod Taking
